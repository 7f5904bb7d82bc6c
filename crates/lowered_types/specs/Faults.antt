-- What lowering gives: what is lowered behind a part of a specification, or the first fault in it; and the limits.
use Rattle.std.specs.Prelude.{◌≡◌, ◌⊎◌, ℕ, nat_lt, if◌then◌else◌, List, [], ◌∷◌, Option, Some, None, Result, Ok, Err, MatchResult}
use Rattle.idl_tree.specs.declared.names.At.{At}
use Rattle.type_graph.specs.declared.fault.GraphLimit.{GraphLimit}
use Rattle.scoped_names.specs.declared.fault.NameFault.{NameFault}
use Rattle.scoped_names.specs.Reading.{◌>>◌}
use Rattle.lowered_types.specs.declared.fault.BuildFault.{BuildFault}
use Rattle.lowered_types.specs.declared.fault.BuildFault.TheVariants.{Types, OtherNames, NoMemory}
use Rattle.lowered_types.specs.declared.fault.TypeFault.TheVariants.{Limit}

-- what there is behind is what reading gives; a fault is the one that it gives, or memory was refused
abbrev pub Tells : {T S : Type 0} → Result T BuildFault → (T → S) → Result S BuildFault → Type 0
Tells result behind reading =
    MatchResult result (λ x. reading ≡ Ok (behind x)) (λ fault. (fault ≡ NoMemory) ⊎ (reading ≡ Err fault))

-- one part behind another
abbrev pub each : {S T : Type 0} → (S → T → Result S BuildFault) → S → List T → Result S BuildFault
each part s [] = Ok s
each part s (x ∷ xs) = part s x >> λ next. each part next xs

-- ---- names of another specification

-- a name that finds nothing of its kind, or an expression without worth: no specification has them whose names they are
abbrev pub of_names : {A : Type 0} → Result A NameFault → Result A BuildFault
of_names (Ok x) = Ok x
of_names (Err fault) = Err OtherNames

abbrev pub or_other : {A : Type 0} → Option A → Result A BuildFault
or_other None = Err OtherNames
or_other (Some x) = Ok x

-- ---- limits

-- the types of a specification, the basic ones too
abbrev pub max_nodes : ℕ
max_nodes = 4096

-- the members of a type, or the labels of a union but for `default`
abbrev pub max_members : ℕ
max_members = 1024

-- those of all types together
abbrev pub max_all_members : ℕ
max_all_members = 32768

abbrev pub max_enumerators : ℕ
max_enumerators = 65536

-- the elements of an array in one dimension
abbrev pub max_size : ℕ
max_size = 1048576

-- the elements of a sequence, or the characters of a string
abbrev pub max_bound : ℕ
max_bound = 4294967295

abbrev pub limit : GraphLimit → ℕ → At → BuildFault
limit which most at = Types (Limit which most at)

-- so many may not be more than the limit
abbrev pub at_most : ℕ → GraphLimit → At → ℕ → Result ℕ BuildFault
at_most most which at n = (if nat_lt most n then Err (limit which most at) else Ok n)

-- Repository ids of the OMG IDL format (ISO/IEC 19500-1, repository identifiers, and pragma directives for repository
-- ids): `IDL:`, the prefix and `/` where a prefix is set, the names from the outermost scope inwards with `/` between
-- them, and behind the last colon a version, which is 1.0 where no pragma gives another.
use Rattle.std.specs.Prelude.{ℕ, zero, suc, cond, nat_eq, List, [], ◌∷◌, ◌++◌, Option, Some, None, slice_get, codes}
use Rattle.std.specs.List.{flat_map}
use Rattle.name_table.specs.Entry.{Entry, around, name_in, prefix_in}
use Rattle.idl_tree.specs.declared.names.At.{At}

-- what a pragma gives to a name: its whole id, or its version
pub data GivenId : Type 0 where
  WholeId : List ℕ → GivenId
  VersionOf : List ℕ → GivenId

-- what is given to an entry, and where it is said first
pub record IdPragma : Type 0 where
  pub entry : ℕ
  pub given : GivenId
  pub at : At

-- an empty prefix is none
abbrev pub prefix_part : List ℕ → List ℕ
prefix_part [] = []
prefix_part (c ∷ cs) = (c ∷ cs) ++ codes "/"

-- the names from the outermost scope to this one; there are no more than the number of the scope
abbrev pub names_to : List Entry → ℕ → ℕ → List (List ℕ)
names_to entries zero scope = []
names_to entries (suc k) zero = []
names_to entries (suc k) (suc e) =
    names_to entries k (around entries (suc e)) ++ name_in (slice_get entries e) ∷ []

-- those of an entry, its own the last
abbrev pub path : List Entry → ℕ → List (List ℕ)
path entries e = names_to entries (suc e) (suc e)

abbrev pub with_slashes : List (List ℕ) → List ℕ
with_slashes [] = []
with_slashes (n ∷ ns) = n ++ flat_map (λ m. codes "/" ++ m) ns

abbrev pub idl_format : List ℕ → List (List ℕ) → List ℕ → List ℕ
idl_format prefix names version =
    codes "IDL:" ++ prefix_part prefix ++ with_slashes names ++ codes ":" ++ version

-- the pragma for the entry, to which one thing is given at most
abbrev pub pragma_for : List IdPragma → ℕ → Option IdPragma
pragma_for [] e = None
pragma_for (p ∷ ps) e = cond (nat_eq e p.entry) (Some p) (pragma_for ps e)

abbrev pub given_in : Option IdPragma → Option GivenId
given_in None = None
given_in (Some p) = Some p.given

-- what is given to the entry
abbrev pub given_to : List IdPragma → ℕ → Option GivenId
given_to ps e = given_in (pragma_for ps e)

abbrev pub id_by : Option GivenId → List ℕ → List (List ℕ) → List ℕ
id_by None prefix names = idl_format prefix names (codes "1.0")
id_by (Some (WholeId text)) prefix names = text
id_by (Some (VersionOf number)) prefix names = idl_format prefix names number

-- the id of an entry: by what a pragma gives to it, and by the prefix that is set where it is declared first
abbrev pub repository_id : List Entry → List IdPragma → ℕ → List ℕ
repository_id entries given e = id_by (given_to given e) (prefix_in (slice_get entries e)) (path entries e)

-- Which operation of a model a word names, for an object whose reference has the id of a type. A rule marked (own) is
-- this project's.
use Rattle.std.specs.Prelude.{ℕ, Bool, false, ◌||◌, nat_eq, if◌then◌else◌, List, [], ◌∷◌, length, drop, Option, Some, None, slice_get, codes}
use Rattle.std.specs.List.{list_any, starts_with}
use Rattle.std.specs.Option.{option_and_then, option_or}
use Rattle.std.specs.Str.{bytes_eq}
use Rattle.type_model.specs.declared.signatures.Interface.{Interface}
use Rattle.type_model.specs.declared.signatures.Operation.{Operation}
use Rattle.type_model.specs.ModelRules.{Parts}

-- an object of the interface may be behind a reference with the id: it is the interface's, or that of one of its bases
abbrev pub is_of : List ℕ → Interface → Bool
is_of id interface = bytes_eq id interface.id || list_any (bytes_eq id) interface.bases

abbrev pub has_name : List ℕ → Option Operation → Bool
has_name name None = false
has_name name (Some operation) = bytes_eq operation.name name

-- the first of the operations that has the name
abbrev pub first_named : Parts → List ℕ → List ℕ → Option ℕ
first_named model name [] = None
first_named model name (number ∷ more) =
    if has_name name (slice_get model.operations number) then Some number else first_named model name more

-- what stands behind a prefix, with which the word has to begin
abbrev pub stripped : List ℕ → List ℕ → Option (List ℕ)
stripped prefix word = if starts_with nat_eq word prefix then Some (drop (length prefix) word) else None

-- the word without the name of an interface and `::`
abbrev pub behind : List ℕ → List ℕ → Option (List ℕ)
behind interface word = option_and_then (stripped (codes "::")) (stripped interface word)

abbrev pub named_by_id : Parts → List ℕ → List ℕ → Interface → Option ℕ
named_by_id model id word interface = if is_of id interface then first_named model word interface.operations else None

-- in full, as `A::I::op`
abbrev pub named_in_full : Parts → List ℕ → Interface → Option ℕ
named_in_full model word interface =
    option_and_then (λ name. first_named model name interface.operations) (behind interface.name word)

-- the operation of an interface that the word names
abbrev pub operation_in : Parts → List ℕ → List ℕ → Interface → Option ℕ
operation_in model id word interface =
    option_or (named_by_id model id word interface) (named_in_full model word interface)

-- that of the first of the interfaces that has one (own)
abbrev pub operation_among : Parts → List ℕ → List ℕ → List Interface → Option ℕ
operation_among model id word [] = None
operation_among model id word (interface ∷ more) =
    option_or (operation_in model id word interface) (operation_among model id word more)

abbrev pub operation_of : Parts → List ℕ → List ℕ → Option ℕ
operation_of model id word = operation_among model id word model.interfaces

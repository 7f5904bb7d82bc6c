-- Which exception of a model has an id.
use Rattle.std.specs.Prelude.{ℕ, Bool, false, if◌then◌else◌, List, [], ◌∷◌, Option, Some, None, slice_get}
use Rattle.std.specs.Str.{bytes_eq}
use Rattle.type_model.specs.declared.signatures.Exception.{Exception}
use Rattle.type_model.specs.ModelRules.{Parts}

abbrev pub has_id : List ℕ → Option Exception → Bool
has_id id None = false
has_id id (Some exception) = bytes_eq exception.id id

-- the first of the exceptions that has the id
abbrev pub exception_with : Parts → List ℕ → List ℕ → Option Exception
exception_with model id [] = None
exception_with model id (number ∷ more) =
    if has_id id (slice_get model.exceptions number)
    then slice_get model.exceptions number else exception_with model id more

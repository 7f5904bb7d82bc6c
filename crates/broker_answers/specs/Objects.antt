-- The objects that are served, their interfaces and operations.
use Rattle.std.specs.Prelude.{◌≡◌, ℕ, suc, Bool, false, ◌||◌, cond, List, [], ◌∷◌, ◌<◌, length, map, All, Option, Some, None, slice_get, codes}
use Rattle.std.specs.declared.vec.Vec.{Vec}
use Rattle.std.specs.declared.alloc.Global.{Global}
use Rattle.std.specs.List.{IsDistinct, list_any}
use Rattle.std.specs.Str.{bytes_eq}
use Rattle.type_model.specs.declared.signatures.Interface.{Interface}
use Rattle.type_model.specs.declared.signatures.Operation.{Operation}
use Rattle.type_model.specs.ModelRules.{Parts}

-- each with its key and the place of its interface
abbrev pub Objects : Type 0
Objects = List (List ℕ × ℕ)

abbrev pub objects_of : List (Vec ℕ Global × ℕ) → Objects
objects_of = map (λ object. (object.0.items, object.1))

-- what is served: the types, interfaces and operations, and the objects
pub record Served : Type 0 where
  pub model : Parts
  pub objects : Objects

abbrev pub served : Parts → Objects → Served
served model objects = record { model = model; objects = objects }

-- the place of the first with the key, where the first of all has this place
abbrev pub place_from : ℕ → List ℕ → Objects → Option ℕ
place_from n key [] = None
place_from n key (object ∷ more) = cond (bytes_eq object.0 key) (Some n) (place_from (suc n) key more)

-- the place of the object with the key
abbrev pub object_with : Objects → Option (List ℕ) → Option ℕ
object_with objects None = None
object_with objects (Some key) = place_from 0 key objects

abbrev pub interface_at : Parts → Option (List ℕ × ℕ) → Option Interface
interface_at model None = None
interface_at model (Some object) = slice_get model.interfaces object.1

-- the interface of the object at a place
abbrev pub interface_of : Served → ℕ → Option Interface
interface_of served place = interface_at served.model (slice_get served.objects place)

abbrev pub has_name : List ℕ → Option Operation → Bool
has_name name None = false
has_name name (Some operation) = bytes_eq operation.name name

-- the first of the operations that has the name
abbrev pub first_named : Parts → List ℕ → List ℕ → Option ℕ
first_named model name [] = None
first_named model name (number ∷ more) =
    cond (has_name name (slice_get model.operations number)) (Some number) (first_named model name more)

abbrev pub operation_named : Parts → Interface → List ℕ → Option ℕ
operation_named model interface name = first_named model name interface.operations

-- the operation and its number
pub record IsNamedOperation (model : Parts) (interface : Interface) (name : List ℕ) (number : ℕ) (operation : Operation)
    : Type 0 where
  pub named : operation_named model interface name ≡ Some number
  pub there : slice_get model.operations number ≡ Some operation

-- the id of the interface that all objects have (ISO/IEC 19500-1, Object interface)
abbrev pub object_id : List ℕ
object_id = codes "IDL:omg.org/CORBA/Object:1.0"

-- whether an object of the interface is of the type with the id
abbrev pub is_a : Interface → List ℕ → Bool
is_a interface id = bytes_eq id interface.id || list_any (bytes_eq id) interface.bases || bytes_eq id object_id

-- no two objects have one key, and each has an interface of the model
pub record AreServed (model : Parts) (objects : Objects) : Type 0 where
  pub distinct : IsDistinct (λ one other. bytes_eq one.0 other.0) objects
  pub within : All (λ object. object.1 < length model.interfaces) objects

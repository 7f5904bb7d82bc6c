-- Operations and attributes (ISO/IEC 19500-1, operation declaration, attribute declaration). An attribute `x` is got by
-- the operation `_get_x`, and set by `_set_x` unless it is readonly.
use Rattle.std.specs.Prelude.{ℕ, Bool, not, true, false, List, [], ◌∷◌, ◌++◌, replicate, Option, Some, None, Result, Ok, Err}
use Rattle.idl_tree.specs.declared.names.At.{At}
use Rattle.idl_tree.specs.declared.names.Leaf.{Leaf}
use Rattle.idl_tree.specs.declared.names.ScopedName.{ScopedName}
use Rattle.idl_tree.specs.declared.definitions.Attribute.{Attribute}
use Rattle.idl_tree.specs.declared.definitions.Attributes.{Attributes}
use Rattle.idl_tree.specs.declared.definitions.Attributes.TheVariants.{Silent, Readonly, Get, Set}
use Rattle.idl_tree.specs.declared.definitions.Declaration.{Declaration}
use Rattle.idl_tree.specs.declared.definitions.Direction.TheVariants.{In, Out}
use Rattle.idl_tree.specs.declared.definitions.Operation.{Operation}
use Rattle.idl_tree.specs.Lists.{parts}
use Rattle.idl_tree.specs.Starts.{leaf_at}
use Rattle.name_table.specs.Entry.{Entry}
use Rattle.name_table.specs.Search.{word}
use Rattle.scoped_names.specs.Reading.{◌>>◌}
use Rattle.lowered_types.specs.declared.fault.BuildFault.{BuildFault}
use Rattle.lowered_types.specs.declared.fault.BuildFault.TheVariants.{OtherNames}
use Rattle.lowered_types.specs.declared.place.Place.{Place}
use Rattle.lowered_types.specs.declared.place.Place.TheVariants.{Typed, Raised, Called, Got, GotAndSet}
use Rattle.lowered_types.specs.Faults.{each}
use Rattle.lowered_types.specs.Lowered.{Lowered, place_of, placed, unlowered}
use Rattle.lowered_types.specs.Declarations.{declaration}
use Rattle.lowered_types.specs.SimpleTypes.{entry_found, entry_of, param_type}
use Rattle.lowered_operations.specs.declared.signature.Role.{Role}
use Rattle.lowered_operations.specs.declared.signature.Role.TheVariants as Roles
use Rattle.lowered_operations.specs.declared.signature.Signature.{Signature}
use Rattle.lowered_operations.specs.declared.signature.Offered.{Offered}
use Rattle.lowered_operations.specs.declared.frames.Carried.{Carried}
use Rattle.lowered_operations.specs.Oneway.{oneway_test, parts_of}
use Rattle.lowered_operations.specs.Frames.{all_carried, frames_added, nothing_carried, result_name, with_carried}

-- the types, the operations in order, and what each entry that is a defined interface has
pub record Defined : Type 0 where
  pub types : Lowered
  pub operations : List Signature
  pub interfaces : List (Option Offered)

-- what is lowered before the first part, where there are so many entries
abbrev pub undefined_yet : ℕ → Defined
undefined_yet entries = record { types = unlowered entries; operations = []; interfaces = replicate entries None }

abbrev pub with_types : Defined → Lowered → Defined
with_types d w = record d { types = w }

-- what is lowered behind a declaration of a module or an interface
abbrev pub declared : List Entry → ℕ → Defined → Declaration → Result Defined BuildFault
declared es scope d x = declaration es d.types scope x >> λ w. Ok (with_types d w)

-- an entry has this from here on
abbrev pub with_place : Defined → ℕ → Place → Result Defined BuildFault
with_place d e p = placed d.types e p >> λ w. Ok (with_types d w)

-- ---- what is raised

-- the place of an exception among the exceptions
abbrev pub exception_in : Option Place → Result ℕ BuildFault
exception_in None = Err OtherNames
exception_in (Some (Raised frame place)) = Ok place
exception_in (Some (Typed n)) = Err OtherNames
exception_in (Some (Called request)) = Err OtherNames
exception_in (Some (Got request)) = Err OtherNames
exception_in (Some (GotAndSet request)) = Err OtherNames

abbrev pub exception_found : List Entry → Lowered → ℕ → ScopedName → Result ℕ BuildFault
exception_found es w scope name = entry_found es scope name >> λ e. exception_in (place_of w e)

abbrev pub with_exception : List Entry → Lowered → ℕ → List ℕ → ScopedName → Result (List ℕ) BuildFault
with_exception es w scope places name = exception_found es w scope name >> λ place. Ok (places ++ place ∷ [])

-- the places of the exceptions that names find
abbrev pub raised : List Entry → Lowered → ℕ → List ScopedName → Result (List ℕ) BuildFault
raised es w scope names = each (with_exception es w scope) [] names

-- ---- operations

-- what is lowered behind a call, and the number of the frame of its request
pub record Requested : Type 0 where
  pub defined : Defined
  pub request : ℕ

abbrev pub requested : Defined → ℕ → Requested
requested d request = record { defined = d; request = request }

-- a way to call an entry that stands there: the frames of its request and its reply, and what it raises
abbrev pub with_call : Defined → Carried → Bool → List ℕ → Role → ℕ → At → Result Requested BuildFault
with_call d c oneway raises role e at =
    frames_added d.types c at >> λ f. Ok (requested (record {
      types = f.lowered;
      operations = d.operations
          ++ record { entry = e; role = role; is_oneway = oneway; request = f.number; raises = raises } ∷ [];
      interfaces = d.interfaces;
    }) f.number)

-- what an operation is lowered to behind the types that it carries
abbrev pub with_operation : List Entry → ℕ → Defined → Carried → Operation → Result Defined BuildFault
with_operation es scope d c o =
    raised es d.types scope (parts_of o.raises) >> λ raises.
    entry_of es scope o.identifier >> λ e.
    with_call d c o.is_oneway raises Roles.Operation e (leaf_at o.identifier) >> λ r.
    with_place r.defined e (Called r.request)

abbrev pub operation : List Entry → ℕ → Defined → Operation → Result Defined BuildFault
operation es scope d o =
    oneway_test o >> λ u.
    all_carried es d.types scope o >> λ c. with_operation es scope (with_types d c.types) c.carried o

-- ---- attributes

-- whether attributes that are declared together are set too
abbrev pub is_set : Attributes → Bool
is_set (Silent readonly ids) = not readonly
is_set (Readonly id raises) = false
is_set (Get id get set) = true
is_set (Set id set) = true

-- what is raised where they are got
abbrev pub get_raises : Attributes → List ScopedName
get_raises (Silent readonly ids) = []
get_raises (Readonly id raises) = parts raises
get_raises (Get id get set) = parts get
get_raises (Set id set) = []

-- and where they are set
abbrev pub set_raises : Attributes → List ScopedName
set_raises (Silent readonly ids) = []
set_raises (Readonly id raises) = []
set_raises (Get id get set) = parts_of set
set_raises (Set id set) = parts set

-- the attribute of the type that has the number is got
abbrev pub with_get : Defined → ℕ → List ℕ → ℕ → At → Result Requested BuildFault
with_get d number raises e at =
    with_carried nothing_carried result_name Out number at >> λ c. with_call d c false raises Roles.Getting e at

-- the attribute of the name is set
abbrev pub with_set : Defined → List ℕ → ℕ → List ℕ → ℕ → At → Result Requested BuildFault
with_set d name number raises e at =
    with_carried nothing_carried name In number at >> λ c. with_call d c false raises Roles.Setting e at

-- it is set too, if it may be
abbrev pub with_access : Requested → List ℕ → ℕ → Bool → List ℕ → ℕ → At → Result Defined BuildFault
with_access got name number false raises e at = with_place got.defined e (Got got.request)
with_access got name number true raises e at =
    with_set got.defined name number raises e at >> λ set. with_place set.defined e (GotAndSet got.request)

-- one of the attributes, of the type that has the number
abbrev pub with_attribute : List Entry → ℕ → ℕ → Attributes → Defined → Leaf → Result Defined BuildFault
with_attribute es scope number a d id =
    raised es d.types scope (get_raises a) >> λ get.
    raised es d.types scope (set_raises a) >> λ set.
    entry_of es scope id >> λ e.
    with_get d number get e (leaf_at id) >> λ got.
    with_access got (word id) number (is_set a) set e (leaf_at id)

-- the identifiers of attributes that are declared together
abbrev pub attribute_identifiers : Attributes → List Leaf
attribute_identifiers (Silent only identifiers) = parts identifiers
attribute_identifiers (Readonly id names) = id ∷ []
attribute_identifiers (Get id get set) = id ∷ []
attribute_identifiers (Set id set) = id ∷ []

-- attributes that are declared together have one type, which is lowered once
abbrev pub attribute : List Entry → ℕ → Defined → Attribute → Result Defined BuildFault
attribute es scope d a =
    param_type es d.types scope a.attribute_type >> λ t.
    each (with_attribute es scope t.number a.declared) (with_types d t.lowered) (attribute_identifiers a.declared)

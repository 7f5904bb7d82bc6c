-- Interfaces (ISO/IEC 19500-1, interface declaration): an interface has the operations of its bases in order, each
-- once, and then its own. It inherits from each base and from all that the base inherits from. Its name is that of a
-- type, the reference of an object.
use Rattle.std.specs.Prelude.{ℕ, ◌+◌, ◌-◌, cond, nat_eq, nat_lt, if◌then◌else◌, List, [], ◌∷◌, ◌++◌, length, Option, Some, None, Result, Ok, Err, slice_get, slice_set}
use Rattle.std.specs.List.{fold, list_any, range_with_len}
use Rattle.idl_tree.specs.declared.names.Leaf.{Leaf}
use Rattle.idl_tree.specs.declared.definitions.Export.{Export}
use Rattle.idl_tree.specs.declared.definitions.Export.TheVariants as Exports
use Rattle.idl_tree.specs.declared.definitions.Interface.{Interface}
use Rattle.idl_tree.specs.declared.definitions.Interface.TheVariants.{Ahead, Defined as Body}
use Rattle.name_table.specs.declared.entry.Base.{Base}
use Rattle.name_table.specs.Entry.{Entry, bases_in}
use Rattle.scoped_names.specs.Reading.{◌>>◌}
use Rattle.lowered_types.specs.declared.fault.BuildFault.{BuildFault}
use Rattle.lowered_types.specs.declared.fault.BuildFault.TheVariants.{OtherNames}
use Rattle.lowered_types.specs.declared.place.Place.{Place}
use Rattle.lowered_types.specs.declared.place.Place.TheVariants.{Typed}
use Rattle.lowered_types.specs.Faults.{each}
use Rattle.lowered_types.specs.SimpleTypes.{entry_of}
use Rattle.lowered_types.specs.Lowered.{place_of}
use Rattle.lowered_operations.specs.declared.signature.Offered.{Offered}
use Rattle.lowered_operations.specs.Operations.{Defined, attribute, declared, operation, with_place}

-- ---- what is inherited

-- one number more, unless it is there
abbrev pub with_once : List ℕ → ℕ → List ℕ
with_once numbers n = cond (list_any (nat_eq n) numbers) numbers (numbers ++ n ∷ [])

abbrev pub offered_in : Option (Option Offered) → Option Offered
offered_in None = None
offered_in (Some o) = o

abbrev pub operations_in : Option Offered → List ℕ
operations_in None = []
operations_in (Some o) = o.operations

abbrev pub bases_in_all : Option Offered → List ℕ
bases_in_all None = []
bases_in_all (Some o) = o.bases

-- the places of the operations of an entry that is a defined interface
abbrev pub operations_of : Defined → ℕ → List ℕ
operations_of d e = operations_in (offered_in (slice_get d.interfaces e))

-- the entries of all interfaces that it inherits from
abbrev pub all_bases_of : Defined → ℕ → List ℕ
all_bases_of d e = bases_in_all (offered_in (slice_get d.interfaces e))

abbrev pub with_base : Defined → List ℕ → Base → List ℕ
with_base d places b = fold with_once places (operations_of d b.entry)

-- those of the bases in order, each once
abbrev pub inherited : Defined → List Base → List ℕ
inherited d bases = fold (with_base d) [] bases

abbrev pub with_base_and_above : Defined → List ℕ → Base → List ℕ
with_base_and_above d entries b = fold with_once (with_once entries b.entry) (all_bases_of d b.entry)

-- each base, and then all that it inherits from, each once
abbrev pub all_bases : Defined → List Base → List ℕ
all_bases d bases = fold (with_base_and_above d) [] bases

-- ---- what stands in an interface

abbrev pub export : List Entry → ℕ → Defined → Export → Result Defined BuildFault
export es scope d (Exports.Pragma p) = Ok d
export es scope d (Exports.Declaration x) = declared es scope d x
export es scope d (Exports.Attribute a) = attribute es scope d a
export es scope d (Exports.Operation o) = operation es scope d o

-- ---- interfaces

-- the entry is the name of an object reference; an interface may be declared ahead any number of times
abbrev pub reference_at : Defined → ℕ → Option Place → Result Defined BuildFault
reference_at d e None = with_place d e (Typed 13)
reference_at d e (Some (Typed n)) = (if nat_eq n 13 then Ok d else Err OtherNames)
reference_at d e _ = Err OtherNames

abbrev pub as_reference : Defined → ℕ → Result Defined BuildFault
as_reference d e = reference_at d e (place_of d.types e)

-- the places of the operations that are lowered from the first on
abbrev pub from_on : ℕ → Defined → List ℕ
from_on first d = range_with_len first (length d.operations - first)

-- what an interface has, whose first operation has the place
abbrev pub offering : Defined → ℕ → List Base → Offered
offering d first bases = record { operations = inherited d bases ++ from_on first d; bases = all_bases d bases }

-- an entry is an interface that has this
abbrev pub with_interface : Defined → ℕ → Offered → Result Defined BuildFault
with_interface d e o =
    (if nat_lt e (length d.interfaces)
    then Ok (record d { interfaces = slice_set d.interfaces e (Some o) })
    else Err OtherNames)

-- the interface of an entry, with what stands in it
abbrev pub interface_of : List Entry → Defined → ℕ → List Export → Result Defined BuildFault
interface_of es d e exports =
    as_reference d e >> λ r.
    each (export es (e + 1)) r exports >> λ b.
    with_interface b e (offering b (length d.operations) (bases_in (slice_get es e)))

abbrev pub identifier_of : Interface → Leaf
identifier_of (Ahead id) = id
identifier_of (Body id bases exports) = id

-- what stands in an interface that isn't only declared ahead
abbrev pub exports_of : Interface → Option (List Export)
exports_of (Ahead id) = None
exports_of (Body id bases exports) = Some exports.items

abbrev pub interface_as : List Entry → Defined → ℕ → Option (List Export) → Result Defined BuildFault
interface_as es d e None = as_reference d e
interface_as es d e (Some exports) = interface_of es d e exports

abbrev pub interface : List Entry → ℕ → Defined → Interface → Result Defined BuildFault
interface es scope d i = entry_of es scope (identifier_of i) >> λ e. interface_as es d e (exports_of i)

-- What answers say.
use Rattle.std.specs.Prelude.{◌≡◌, ℕ, Bool, true, false, ◌<◌, ◌≤◌, ◌⊎◌, List, ◌++◌, length, slice_get, take, Some}
use Rattle.std.specs.Bool.{OnFalse}
use Rattle.type_graph.specs.declared.width.Order.{Order}
use Rattle.type_graph.specs.declared.width.Order.TheVariants.{Big, Little}
use Rattle.type_graph.specs.Words.{reading, writing}
use Rattle.type_graph.specs.Encoding.{Means}
use Rattle.table_file.specs.Table.{TableParts, IsTable}
use Rattle.table_file.specs.TableSpelling.{Spells, SpellsOld}
use Rattle.table_file.specs.Refusal.{wants_memory as file_wants_memory}
use Rattle.routine_checker.specs.declared.fault.CheckFault.{CheckFault}
use Rattle.routine_checker.specs.Refusal.{wants_memory as check_wants_memory}
use Rattle.position_checker.specs.Acceptance.{IsLone}
use Rattle.position_checker.specs.Verdict.{table_fault}
use Rattle.program_runner.specs.Refusal.{wants_memory as run_wants_memory}
use Rattle.idlc_c.specs.declared.refusal.RefusalPlace.{RefusalPlace}
use Rattle.idlc_c.specs.declared.refusal.Refusal.{Refusal}
use Rattle.idlc_c.specs.declared.refusal.Refusal.TheVariants.{NoMemory, NotNamed, NoRoom, TooLong, NoTable, NotRight, NoValue}
use Rattle.idlc_c.specs.Numbers.{place_of_check}

-- C gives the order of the octets of a number as a boolean: whether the lowest is first
abbrev pub order_of : Bool → Order
order_of true = Little
order_of false = Big

-- the octets are a table file's of version 1 or 2, of this table
abbrev pub IsFile : List ℕ → TableParts → Type 0
IsFile octets table = Spells table octets ⊎ SpellsOld table octets

-- no table's file has these octets
abbrev pub IsNoFile : List ℕ → Type 0
IsNoFile octets = (table : TableParts) → IsTable table → IsFile octets table → ⊥

-- the octets are the file of a table whose first fault this is, and which isn't one that has the plain or the joined
-- program of its model alone
pub record IsFaulty (octets : List ℕ) (fault : CheckFault) : Type 0 where
  pub table : TableParts
  pub file : IsFile octets table
  pub first : table_fault table ≡ Some fault
  pub another : IsLone table → ⊥

-- the same, of a fault with this number at this place
pub record IsFaultyAt (octets : List ℕ) (place : RefusalPlace) : Type 0 where
  pub fault : CheckFault
  pub faulty : IsFaulty octets fault
  pub placed : place ≡ place_of_check fault

abbrev pub RefusesFile : List ℕ → Refusal → Type 0
RefusesFile octets NoMemory = Unit {0}
RefusesFile octets TooLong = 16777216 < length octets
RefusesFile octets (NoTable fault) = OnFalse (file_wants_memory fault) (IsNoFile octets)
RefusesFile octets (NotRight fault) = OnFalse (check_wants_memory fault) (IsFaulty octets fault)
RefusesFile octets refusal = ⊥

-- the tape encodes so many octets
pub record HasOctets (node : ℕ) (order : Order) (pos : ℕ) (tape : List ℕ) (len : ℕ) (table : TableParts) : Type 0 where
  pub octets : List ℕ
  pub meant : Means table.model.graph (writing order) 64 node pos tape octets
  pub long : length octets ≡ len

-- the tape encodes no octets
abbrev pub HasNoOctets : ℕ → Order → ℕ → List ℕ → TableParts → Type 0
HasNoOctets node order pos tape table =
    (octets : List ℕ) → Means table.model.graph (writing order) 64 node pos tape octets → ⊥

-- a front of the octets encodes a tape so long
pub record HasTape (node : ℕ) (order : Order) (pos : ℕ) (octets : List ℕ) (len : ℕ) (table : TableParts) : Type 0 where
  pub tape : List ℕ
  pub taken : ℕ
  pub meant : Means table.model.graph (reading order) 64 node pos tape (take taken octets)
  pub within : taken ≤ length octets
  pub long : length tape ≡ len

-- no front of the octets encodes a tape
abbrev pub HasNoTape : ℕ → Order → ℕ → List ℕ → TableParts → Type 0
HasNoTape node order pos octets table =
    (tape front rest : List ℕ) → octets ≡ front ++ rest
    → Means table.model.graph (reading order) 64 node pos tape front → ⊥

-- the name at a place is so long
pub record HasName (place : ℕ) (len : ℕ) (table : TableParts) : Type 0 where
  pub name : List ℕ
  pub node : ℕ
  pub there : slice_get table.model.names place ≡ Some (name, node)
  pub long : length name ≡ len

-- why a value isn't handed over: it isn't named, it has a length, it is none
abbrev pub RefusesValue : Type 0 → (ℕ → Type 0) → Type 0 → Refusal → Type 0
RefusesValue unnamed long none NoMemory = Unit {0}
RefusesValue unnamed long none NotNamed = unnamed
RefusesValue unnamed long none (NoRoom needed) = long needed
RefusesValue unnamed long none (NoValue fault) = OnFalse (run_wants_memory fault) none
RefusesValue unnamed long none refusal = ⊥

-- why a name isn't handed over: none stands there, or it has a length
abbrev pub RefusesName : Type 0 → (ℕ → Type 0) → Refusal → Type 0
RefusesName past long NotNamed = past
RefusesName past long (NoRoom needed) = long needed
RefusesName past long refusal = ⊥

-- the refusal tells of a length for which there is no room
abbrev pub TellsLength : (ℕ → Type 0) → ℕ → ℕ → Type 0
TellsLength has room needed = (room < needed) × has needed

-- 0, or one of the library's own numbers, from one to another
abbrev pub IsOwn : ℕ → ℕ → ℕ → Type 0
IsOwn low high number = (number ≡ 0) ⊎ ((low ≤ number) × (number ≤ high))

-- the numbers that a call to encode or to decode answers
abbrev pub IsOfValue : ℕ → Type 0
IsOfValue number = IsOwn 42 45 number ⊎ ((60 ≤ number) × (number ≤ 68))

-- the numbers that a call to load answers
abbrev pub IsOfFile : ℕ → Type 0
IsOfFile number =
    IsOwn 42 42 number ⊎ (number ≡ 46) ⊎ ((50 ≤ number) × (number ≤ 55)) ⊎ ((80 ≤ number) × (number ≤ 85))

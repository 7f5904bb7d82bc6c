-- The rules of a routine apart, as they are tested one after the other.
use Rattle.std.specs.Prelude.{◌≡◌, ◌↔◌, ℕ, ◌<◌, ◌≤◌, Bool, true, false, List, All, slice_index_or}
use Rattle.marshal_program.specs.declared.instr.Instr.{Instr}
use Rattle.marshal_program.specs.declared.instr.Instr.TheVariants.{SeqWords, SeqOf, Switch}
use Rattle.marshal_program.specs.declared.instr.Routine.{Routine}
use Rattle.marshal_program.specs.ProgramRules.{IsShort, IsInstr, AreSets, named_by, called_by, TakesOctet, IsLower}

-- an instruction whose numbers are in range, among so many routines
pub record HasNumbers (count : ℕ) (instr : Instr) : Type 0 where
  pub itself : IsInstr instr
  pub named : All (λ number. number < count) (named_by instr)

pub record HasAllNumbers (count : ℕ) (routine : Routine) : Type 0 where
  pub noded : IsShort routine.node
  pub entered : (0 < routine.entry) × (routine.entry < 256)
  pub exits : AreSets routine.exits
  pub ranked : routine.rank ≤ 63
  pub instrs : All (HasNumbers count) routine.code

abbrev pub NamesWork : List Routine → Routine → Type 0
NamesWork program routine = All (λ instr. All (TakesOctet program) (named_by instr)) routine.code

-- a number at which it is true
abbrev pub IsMarked : List Bool → ℕ → Type 0
IsMarked marks number = slice_index_or marks number false ≡ true

-- true at just the numbers of the routines that take an octet
abbrev pub AreWorks : List Routine → List Bool → Type 0
AreWorks program works = (number : ℕ) → IsMarked works number ↔ TakesOctet program number

abbrev pub NamesMarked : List Bool → Routine → Type 0
NamesMarked works routine = All (λ instr. All (IsMarked works) (named_by instr)) routine.code

abbrev pub CallsLower : List Routine → Routine → Type 0
CallsLower program routine = All (λ instr. All (IsLower program routine.rank) (called_by instr)) routine.code

-- an instruction of three fields
abbrev pub has_three_fields : Instr → Bool
has_three_fields (SeqWords width first bound) = true
has_three_fields (SeqOf bound first routine) = true
has_three_fields (Switch disc arms otherwise) = true
has_three_fields instr = false

-- What answers about IDL texts say.
use Rattle.std.specs.Prelude.{◌≡◌, ◌≢◌, ◌⊎◌, ℕ, List, unwrap_or}
use Rattle.table_file.specs.Table.{TableParts}
use Rattle.idl_compiler.specs.Files.{IsNamedText, IsRefusedSource}
use Rattle.idl_compiler.specs.Numbers.{spot_of}
use Rattle.idl_compiler.specs.declared.fault.CompileFault.{CompileFault}
use Rattle.idl_compiler.specs.declared.fault.CompileFault.TheVariants.{NoMemory}
use Rattle.idl_compiler.specs.declared.steps.NamedTable.{NamedTable}
use Rattle.idlc_c.specs.declared.source_place.SourcePlace.{SourcePlace}
use Rattle.idlc_c.specs.Answers.{IsOwn}
use Rattle.idlc_c.specs.Handle.{Labels}

-- the octets are IDL that has the table, and these names of parts
pub record IsIdlOf (source : List ℕ) (names : Labels) (table : TableParts) : Type 0 where
  pub whole : NamedTable
  pub is : IsNamedText source whole
  pub table_is : table ≡ whole.settled.table
  pub names_are : names ≡ whole.names

-- the number and the line are those of the fault for which the octets have no table
pub record IsFaultAt (source : List ℕ) (place : SourcePlace) : Type 0 where
  pub fault : CompileFault
  pub told : fault ≢ NoMemory
  pub refused : IsRefusedSource source fault
  pub number_is : place.number ≡ (unwrap_or (spot_of fault) (0, 0)).0
  pub line_is : place.line ≡ (unwrap_or (spot_of fault) (0, 0)).1

-- the numbers that a call to compile answers
abbrev pub IsOfSource : ℕ → Type 0
IsOfSource number = IsOwn 42 42 number ⊎ (number ≡ 47)

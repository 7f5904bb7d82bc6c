-- What it means that a table file is right for an IDL file, and why an IDL file has none.
use Rattle.std.specs.Prelude.{◌≡◌, ◌⊎◌, ◌≤◌, ◌<◌, ℕ, List, length}
use Rattle.std.specs.Str.{IsUtf8, IsValidUpTo}
use Rattle.std.specs.String.{string_bytes}
use Rattle.idl_compiler.specs.declared.fault.CompileFault.{CompileFault}
use Rattle.idl_compiler.specs.declared.fault.CompileFault.TheVariants.{Tokens, TooLong, NoMemory}
use Rattle.idl_lexer.specs.declared.fault.LexFault.TheVariants.{BadChar}
use Rattle.idl_compiler.specs.Compiled.{IsCompiled, IsNamedTable}
use Rattle.idl_compiler.specs.Refused.{HasNoTable, IsRefused}
use Rattle.position_checker.specs.Acceptance.{IsRight}
use Rattle.idl_compiler.specs.declared.choice.Settled.{Settled}
use Rattle.idl_compiler.specs.declared.steps.NamedTable.{NamedTable}
use Rattle.table_file.specs.Table.{TableParts}
use Rattle.table_file.specs.TableSpelling.{Spells}
use Rattle.position_checker.specs.Summary.{accepted}
use Rattle.idl_compiler.specs.declared.file.CompiledFile.{CompiledFile}

-- The octets spell the table of the definitions that the text's tokens spell, each routine of that table does just what
-- its node means; it is told how many routines it has, and whether the planned program serves the names.
pub record IsCompiledFile (source : List ℕ) (file : CompiledFile) : Type 0 where
  pub text : IsUtf8 source
  pub settled : Settled
  pub compiled : IsCompiled source settled
  pub right : IsRight settled.table
  pub spelled : Spells settled.table file.octets.items
  pub within : length file.octets.items ≤ 16777216
  pub line : string_bytes file.line ≡ accepted settled.table
  pub planned : file.is_planned ≡ settled.is_planned

-- the octets are a text that has that table and those names of parts
pub record IsNamedText (source : List ℕ) (whole : NamedTable) : Type 0 where
  pub text : IsUtf8 source
  pub is : IsNamedTable source whole

-- ---- refusals

-- no octets that a file may have spell the table: its texts are ASCII, so they are too many, or 2 ^ 32 of something
abbrev pub IsTooLong : TableParts → Type 0
IsTooLong table = (octets : List ℕ) → Spells table octets → 16777216 < length octets

-- why a table has no file
abbrev pub RefusesTable : TableParts → CompileFault → Type 0
RefusesTable table TooLong = IsTooLong table
RefusesTable table NoMemory = Unit {0}
RefusesTable table fault = ⊥

-- the octets are no text, which is told as a character of line 0, at the octet up to which they are
pub record IsNoText (source : List ℕ) (fault : CompileFault) : Type 0 where
  pub none : IsUtf8 source → ⊥
  pub octet : ℕ
  pub place : IsValidUpTo source octet
  pub told : fault ≡ Tokens (BadChar 0 octet)

-- a step refuses the text, and it has no table
pub record IsRefusedText (source : List ℕ) (fault : CompileFault) : Type 0 where
  pub text : IsUtf8 source
  pub refused : IsRefused source fault
  pub none : HasNoTable source

-- the text has a table, which is too long
pub record HasLongTable (source : List ℕ) : Type 0 where
  pub settled : Settled
  pub compiled : IsCompiled source settled
  pub long : IsTooLong settled.table

-- the octets are no text, or a step refuses it
abbrev pub IsRefusedSource : List ℕ → CompileFault → Type 0
IsRefusedSource source TooLong = ⊥
IsRefusedSource source NoMemory = Unit {0}
IsRefusedSource source fault = IsNoText source fault ⊎ IsRefusedText source fault

abbrev pub IsRefusedFile : List ℕ → CompileFault → Type 0
IsRefusedFile source TooLong = HasLongTable source
IsRefusedFile source fault = IsRefusedSource source fault

-- What is read from files and written to them.
use Rattle.std.specs.Prelude.{◌≡◌, ◌⊎◌, ℕ, List}
use Rattle.std.specs.String.{string_bytes}
use Rattle.idl_compiler.specs.Files.{IsCompiledFile, IsRefusedFile}
use Rattle.idl_compiler.specs.declared.file.CompiledFile.{CompiledFile}
use Rattle.command_tables.specs.Named.{Passing, IsNoUpgrade, IsUnread, IsUnwritten}
use Rattle.command_tables.specs.declared.refusal.Refusal.{Refusal}
use Rattle.idlc_main.specs.declared.fault.Fault.{Fault}
use Rattle.idlc_main.specs.declared.fault.Fault.TheVariants.{NotCompiled, Refused}

-- an IDL file was read, its table was written to another file, and the line tells of it
pub record IsCompiledTo (Reads Takes : Passing) (source output line : List ℕ) : Type 0 where
  pub octets : List ℕ
  pub read : Reads source octets
  pub file : CompiledFile
  pub is : IsCompiledFile octets file
  pub taken : Takes output file.octets.items
  pub line_is : line ≡ string_bytes file.line

-- ---- faults

-- it has one, but the other file can't be written
pub record IsNotPut (Reads : Passing) (source output : List ℕ) (refusal : Refusal) : Type 0 where
  pub octets : List ℕ
  pub read : Reads source octets
  pub file : CompiledFile
  pub is : IsCompiledFile octets file
  pub unwritten : IsUnwritten output refusal

-- an IDL file can't be read, or what it was read as has no table file, or the other file can't be written
abbrev pub IsCompileFault : Passing → List ℕ → List ℕ → Fault → Type 0
IsCompileFault Reads source output (Refused refusal) = IsUnread Reads source refusal
    ⊎ IsNotPut Reads source output refusal
IsCompileFault Reads source output (NotCompiled fault octets) = Reads source octets.items × IsRefusedFile octets.items
    fault
IsCompileFault Reads source output fault = ⊥

-- a table can't be had, or not be written to another file
abbrev pub IsUpgradeFault : Passing → List ℕ → List ℕ → Fault → Type 0
IsUpgradeFault Reads table output (Refused refusal) = IsNoUpgrade Reads table output refusal
IsUpgradeFault Reads table output fault = ⊥

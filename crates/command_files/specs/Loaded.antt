-- The tables that words name: the sample, table files, and IDL files.
use Rattle.std.specs.Prelude.{◌≡◌, ◌≢◌, ◌⊎◌, ℕ, List, [], take, codes}
use Rattle.idl_compiler.specs.Files.{IsNamedText, IsRefusedSource}
use Rattle.idl_compiler.specs.declared.steps.NamedTable.{NamedTable}
use Rattle.position_checker.specs.Acceptance.{IsRight}
use Rattle.table_file.specs.Table.{TableParts}
use Rattle.table_file.specs.TableSpelling.{Spells, SpellsOld}
use Rattle.command_tables.specs.Files.{RefusesFile}
use Rattle.command_tables.specs.Named.{Passing}
use Rattle.command_tables.specs.Reading.{HasMore}
use Rattle.command_tables.specs.Sample.{sample_table}
use Rattle.command_tables.specs.declared.refusal.Refusal.TheVariants as refusals
use Rattle.command_texts.specs.Lines.{Labels}
use Rattle.command_files.specs.declared.loaded.NamedFault.{NamedFault}
use Rattle.command_files.specs.declared.loaded.NamedFault.TheVariants.{Refused, NotCompiled}

-- a table file, and not IDL
abbrev pub IsTableFile : List ℕ → Type 0
IsTableFile octets = take 4 octets ≡ codes "IDLT"

-- the octets are IDL that has the table and these names of parts
pub record IsSourceOf (octets : List ℕ) (table : TableParts) (labels : Labels) : Type 0 where
  pub whole : NamedTable
  pub is : IsNamedText octets whole
  pub table_is : table ≡ whole.settled.table
  pub labels_are : labels ≡ whole.names

-- the octets spell the table, of whose parts no names are known, or are its IDL
pub record IsHeldBy (octets : List ℕ) (table : TableParts) (labels : Labels) : Type 0 where
  pub spelled : IsTableFile octets → (Spells table octets ⊎ SpellsOld table octets) × (labels ≡ [])
  pub compiled : (IsTableFile octets → ⊥) → IsSourceOf octets table labels

-- the file of a name was read as octets that hold the table
pub record IsFileOf (Reads : Passing) (name : List ℕ) (table : TableParts) (labels : Labels) : Type 0 where
  pub octets : List ℕ
  pub read : Reads name octets
  pub held : IsHeldBy octets table labels

-- the table of a name, which is right: the sample where that was asked for, else that of the file
pub record IsLoaded (Reads : Passing) (name : List ℕ) (table : TableParts) (labels : Labels) : Type 0 where
  pub right : IsRight table
  pub sample : name ≡ codes "builtin" → (table ≡ sample_table) × (labels ≡ [])
  pub file : name ≢ codes "builtin" → IsFileOf Reads name table labels

-- ---- refusals

-- the octets hold no table: as a table file, or as IDL
abbrev pub IsNotHeld : List ℕ → NamedFault → Type 0
IsNotHeld octets (Refused (refusals.NoTable fault)) =
    IsTableFile octets × RefusesFile octets (refusals.NoTable fault)
IsNotHeld octets (Refused (refusals.NotRight fault)) =
    IsTableFile octets × RefusesFile octets (refusals.NotRight fault)
IsNotHeld octets (NotCompiled fault source) =
    (source.items ≡ octets) × (IsTableFile octets → ⊥) × IsRefusedSource octets fault
IsNotHeld octets (Refused refusals.NoMemory) = Unit {0}
IsNotHeld octets fault = ⊥

-- the file of a name was read, and its octets are refused so
pub record IsRefusedFile (Reads : Passing) (name : List ℕ) (fault : NamedFault) : Type 0 where
  pub other : name ≢ codes "builtin"
  pub octets : List ℕ
  pub read : Reads name octets
  pub refused : IsNotHeld octets fault

-- a file can't be read, has more octets than a file may have, or holds no table; of the sample want of memory alone
abbrev pub IsNotLoaded : Passing → List ℕ → NamedFault → Type 0
IsNotLoaded Reads name (Refused (refusals.Unread file)) = (name ≢ codes "builtin") × (file.now ≡ name)
IsNotLoaded Reads name (Refused refusals.TooLong) = (name ≢ codes "builtin") × HasMore (Reads name) 16777216
IsNotLoaded Reads name (Refused refusals.NoMemory) = Unit {0}
IsNotLoaded Reads name fault = IsRefusedFile Reads name fault

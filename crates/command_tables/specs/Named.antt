-- Tables by their names: the sample, or files.
use Rattle.std.specs.Prelude.{◌≡◌, ◌≢◌, ◌⊎◌, ℕ, List, codes}
use Rattle.position_checker.specs.Acceptance.{IsRight}
use Rattle.command_tables.specs.Files.{RefusesFile, RefusesTable}
use Rattle.command_tables.specs.Reading.{HasMore}
use Rattle.position_checker.specs.Summary.{accepted}
use Rattle.command_tables.specs.declared.refusal.Refusal.{Refusal}
use Rattle.command_tables.specs.declared.refusal.Refusal.TheVariants.{Unread, Unwritten, NoTable, NotRight, TooLong, NoMemory}
use Rattle.command_tables.specs.Sample.{sample_table}
use Rattle.table_file.specs.Table.{TableParts}
use Rattle.table_file.specs.TableSpelling.{Spells, SpellsOld}

-- by its name, a file was read as octets, or written as them
abbrev pub Passing : Type 1
Passing = List ℕ → List ℕ → Type 0

-- the file of a name was read, and its octets spell the table, in the newest version or an older one
pub record IsReadAs (Reads : Passing) (name : List ℕ) (table : TableParts) : Type 0 where
  pub octets : List ℕ
  pub read : Reads name octets
  pub spelled : Spells table octets ⊎ SpellsOld table octets

-- the table of a name, which is right: the sample where that was asked for, else that of the file
pub record IsTableOf (Reads : Passing) (name : List ℕ) (table : TableParts) : Type 0 where
  pub right : IsRight table
  pub sample : name ≡ codes "builtin" → table ≡ sample_table
  pub file : name ≢ codes "builtin" → IsReadAs Reads name table

-- a file was written as octets that spell a table in the newest version, all of them
pub record IsWritten (Takes : Passing) (output : List ℕ) (table : TableParts) : Type 0 where
  pub octets : List ℕ
  pub spelled : Spells table octets
  pub taken : Takes output octets

-- the table of a name was written to another file, and the line tells of it
pub record IsUpgraded (Reads Takes : Passing) (name output line : List ℕ) : Type 0 where
  pub table : TableParts
  pub is : IsTableOf Reads name table
  pub written : IsWritten Takes output table
  pub line_is : line ≡ accepted table

-- ---- refusals

-- the file can't be read, or has more octets than a file may have
abbrev pub IsUnread : Passing → List ℕ → Refusal → Type 0
IsUnread Reads name (Unread file) = file.now ≡ name
IsUnread Reads name TooLong = HasMore (Reads name) 16777216
IsUnread Reads name NoMemory = Unit {0}
IsUnread Reads name refusal = ⊥

-- the file can't be written
abbrev pub IsUnwritten : List ℕ → Refusal → Type 0
IsUnwritten name (Unwritten file) = file.now ≡ name
IsUnwritten name NoMemory = Unit {0}
IsUnwritten name refusal = ⊥

-- the file of a name was read, and its octets are refused so
pub record IsRefusedFile (Reads : Passing) (name : List ℕ) (refusal : Refusal) : Type 0 where
  pub other : name ≢ codes "builtin"
  pub octets : List ℕ
  pub read : Reads name octets
  pub refused : RefusesFile octets refusal

-- a file can't be read, or it is no table's, or its table isn't right; of the sample want of memory alone
abbrev pub IsNoTable : Passing → List ℕ → Refusal → Type 0
IsNoTable Reads name (Unread file) = (name ≢ codes "builtin") × (file.now ≡ name)
IsNoTable Reads name (NoTable fault) = IsRefusedFile Reads name (NoTable fault)
IsNoTable Reads name (NotRight fault) = IsRefusedFile Reads name (NotRight fault)
IsNoTable Reads name TooLong = (name ≢ codes "builtin") × HasMore (Reads name) 16777216
IsNoTable Reads name NoMemory = Unit {0}
IsNoTable Reads name refusal = ⊥

-- the table of a name has no octets that fit a file, or the other file can't be written
pub record IsNotWritten (Reads : Passing) (name output : List ℕ) (refusal : Refusal) : Type 0 where
  pub table : TableParts
  pub is : IsTableOf Reads name table
  pub refused : RefusesTable table refusal ⊎ IsUnwritten output refusal

abbrev pub IsNoUpgrade : Passing → List ℕ → List ℕ → Refusal → Type 0
IsNoUpgrade Reads name output refusal = IsNoTable Reads name refusal ⊎ IsNotWritten Reads name output refusal

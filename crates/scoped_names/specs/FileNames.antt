-- The names of a whole specification: what it declares, and what its pragmas say of repository ids.
use Rattle.std.specs.Prelude.{◌≡◌, List, Result, Ok}
use Rattle.idl_tree.specs.declared.definitions.Definition.{Definition}
use Rattle.scoped_names.specs.declared.fault.NameFault.{NameFault}
use Rattle.name_table.specs.Entry.{Entry}
use Rattle.scoped_names.specs.Faults.{specification_read}
use Rattle.scoped_names.specs.Reading.{State, ◌>>◌}
use Rattle.scoped_names.specs.RepositoryIds.{IdPragma}

-- the entries in order of declaration, and what pragmas give to each
pub record FileNames : Type 0 where
  pub entries : List Entry
  pub rules : List IdPragma

abbrev pub file_names : State → FileNames
file_names st = record { entries = st.entries; rules = st.given }

-- the names of a specification, or its first fault
abbrev pub names_of : List Definition → Result FileNames NameFault
names_of definitions = specification_read definitions >> λ st. Ok (file_names st)

abbrev pub AreNames : List Definition → FileNames → Type 0
AreNames definitions names = names_of definitions ≡ Ok names

-- A table file as pairs, of either version.
use Rattle.std.specs.Prelude.{ℕ, List, [], ◌∷◌, length, Option, Some}
use Rattle.std.specs.Fmt.{◌++?◌}
use Rattle.type_graph.specs.declared.node.Node.{Node}
use Rattle.type_model.specs.declared.signatures.Interface.{Interface}
use Rattle.type_model.specs.declared.signatures.Operation.{Operation}
use Rattle.type_model.specs.declared.signatures.Exception.{Exception}
use Rattle.marshal_program.specs.declared.instr.Routine.{Routine}
use Rattle.table_file.specs.declared.table.Which.{Which}
use Rattle.table_file.specs.Octets.{Tagged, spelled_tagged, spelled_run, spelled_list, spelled_pair}
use Rattle.table_file.specs.Spelling.{spelled_node, spelled_name, spelled_program}
use Rattle.table_file.specs.TableSpelling.{spelled_which}
use Rattle.table_file.specs.inner.Skimming.{spelled_declared}
use Rattle.table_file.specs.inner.TableCodes.{OldFields, spelled_old_fields}

-- a list, and behind it what its length asks for
abbrev pub spelled_counted : {A B : Type 0} → (A → Option (List ℕ)) → (ℕ → B → Option (List ℕ)) → List A × B
    → Option (List ℕ)
spelled_counted f behind x = spelled_list f x.0 ++? behind (length x.0) x.1

-- what stands behind so many names
abbrev pub BehindNames : Type 0
BehindNames = (List Interface × (List Operation × List Exception)) × ((List Routine × List Routine) × List Which)

abbrev pub spelled_behind : ℕ → BehindNames → Option (List ℕ)
spelled_behind n =
    spelled_pair spelled_declared
    (spelled_pair (spelled_pair spelled_program spelled_program) (spelled_run n spelled_which))

-- what stands behind the start in version 2
abbrev pub NewFields : Type 0
NewFields = List Node × (List (List ℕ × ℕ) × BehindNames)

abbrev pub spelled_new_fields : NewFields → Option (List ℕ)
spelled_new_fields = spelled_pair (spelled_list spelled_node) (spelled_counted spelled_name spelled_behind)

-- either version, with its number before it
pub data Form : Type 0 where
  Old : OldFields → Form
  New : NewFields → Form

abbrev pub tagged_form : Form → Tagged
tagged_form (Old x) = (1, spelled_old_fields x)
tagged_form (New x) = (2, spelled_new_fields x)

abbrev pub spelled_form : Form → Option (List ℕ)
spelled_form x = spelled_tagged (tagged_form x)

-- one letter
abbrev pub letter : ℕ → Unit {0} → Option (List ℕ)
letter n u = Some (n ∷ [])

-- "IDLT"
abbrev pub Letters : Type 0
Letters = Unit {0} × (Unit {0} × (Unit {0} × Unit {0}))

abbrev pub spelled_letters : Letters → Option (List ℕ)
spelled_letters = spelled_pair (letter 73) (spelled_pair (letter 68) (spelled_pair (letter 76) (letter 84)))

-- a whole file
abbrev pub spelled_file : Letters × Form → Option (List ℕ)
spelled_file = spelled_pair spelled_letters spelled_form

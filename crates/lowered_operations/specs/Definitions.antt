-- What modules and whole files are lowered to, part by part in the order of the text (ISO/IEC 19500-1, module
-- declaration).
use Rattle.std.specs.Prelude.{ℕ, ◌+◌, List, length, Result, Ok}
use Rattle.idl_tree.specs.declared.definitions.Definition.{Definition, Pragma, Declaration as Declared, Interface as InterfaceDcl, Module', Row_of-Definition, end_of-Definition, more_of-Definition}
use Rattle.name_table.specs.Entry.{Entry}
use Rattle.scoped_names.specs.Reading.{◌>>◌}
use Rattle.lowered_types.specs.declared.fault.BuildFault.{BuildFault}
use Rattle.lowered_types.specs.Faults.{each}
use Rattle.lowered_types.specs.SimpleTypes.{entry_of}
use Rattle.lowered_operations.specs.Operations.{Defined, declared, undefined_yet}
use Rattle.lowered_operations.specs.Interfaces.{interface}

abbrev mutual
  pub definition : List Entry → ℕ → Defined → Definition → Result Defined BuildFault
  definition es scope d (Pragma p) = Ok d
  definition es scope d (Declared x) = declared es scope d x
  definition es scope d (InterfaceDcl i) = interface es scope d i
  definition es scope d (Module' id shape definitions) =
      entry_of es scope id >> λ e. definitions_after es (e + 1) d definitions

  pub definitions_after : {n : _} → List Entry → ℕ → Defined → Row_of-Definition n → Result Defined BuildFault
  definitions_after es scope d end_of-Definition = Ok d
  definitions_after es scope d (more_of-Definition x rest) =
      definition es scope d x >> λ next. definitions_after es scope next rest

-- what a whole file is lowered to that declares the entries, or its first fault
abbrev pub defined_by : List Entry → List Definition → Result Defined BuildFault
defined_by es definitions = each (definition es 0) (undefined_yet (length es)) definitions

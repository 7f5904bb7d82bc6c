-- The rule of oneway operations in the whole of a file.
use Rattle.std.specs.Prelude.{◌≡◌, true, List, [], ◌++◌, All, Option, Some, None}
use Rattle.std.specs.List.{flat_map}
use Rattle.idl_tree.specs.declared.definitions.Export.{Export}
use Rattle.idl_tree.specs.declared.definitions.Export.TheVariants as Exports
use Rattle.idl_tree.specs.declared.definitions.Definition.{Definition, Pragma, Declaration as Declared, Interface as InterfaceDcl, Module', Row_of-Definition, end_of-Definition, more_of-Definition}
use Rattle.lowered_operations.specs.Oneway.{answer_of}
use Rattle.lowered_operations.specs.Interfaces.{exports_of}

-- nothing comes back from it, if it is a oneway operation
abbrev pub KeepsRule : Export → Type 0
KeepsRule (Exports.Pragma p) = Unit {0}
KeepsRule (Exports.Declaration x) = Unit {0}
KeepsRule (Exports.Attribute a) = Unit {0}
KeepsRule (Exports.Operation o) = o.is_oneway ≡ true → answer_of o ≡ None

abbrev pub or_none : Option (List Export) → List Export
or_none None = []
or_none (Some exports) = exports

-- what stands in the interfaces of a definition, in order
abbrev mutual
  pub exports_in : Definition → List Export
  exports_in (Pragma p) = []
  exports_in (Declared x) = []
  exports_in (InterfaceDcl i) = or_none (exports_of i)
  exports_in (Module' id shape definitions) = exports_in_each definitions

  pub exports_in_each : {n : _} → Row_of-Definition n → List Export
  exports_in_each end_of-Definition = []
  exports_in_each (more_of-Definition x rest) = exports_in x ++ exports_in_each rest

abbrev pub KeepRule : List Definition → Type 0
KeepRule definitions = All KeepsRule (flat_map exports_in definitions)

-- The model that a file shows (ISO/IEC 19500-1, specification): its types, each with its number in the order of the
-- text, their names, its interfaces, operations and exceptions.
use Rattle.std.specs.Prelude.{◌≡◌, ℕ, List, map, Option, Ok}
use Rattle.idl_tree.specs.declared.definitions.Definition.{Definition}
use Rattle.type_model.specs.ModelRules.{IsModel, Parts, parts_of}
use Rattle.scoped_names.specs.FileNames.{FileNames}
use Rattle.lowered_types.specs.Lowered.{Lowered}
use Rattle.lowered_operations.specs.declared.signature.Offered.{Offered}
use Rattle.lowered_operations.specs.declared.signature.Signature.{Signature}
use Rattle.lowered_operations.specs.Operations.{Defined}
use Rattle.lowered_operations.specs.Definitions.{defined_by}
use Rattle.model_builder.specs.Naming.{names_of}
use Rattle.model_builder.specs.Signatures.{exception_of, interfaces_from, operation_of}

abbrev pub defined : Lowered → List Signature → List (Option Offered) → Defined
defined types operations interfaces = record { types = types; operations = operations; interfaces = interfaces }

-- what is lowered, under the names of the file
abbrev pub model_of : FileNames → Defined → Parts
model_of names d = parts_of d.types.nodes (names_of names.entries d.types) (interfaces_from names 0 d.interfaces)
    (map (operation_of names.entries) d.operations) (map (exception_of names) d.types.exceptions)

-- the model shows what is lowered, and keeps the rules of models
pub record IsModelOf (names : FileNames) (d : Defined) (model : Parts) : Type 0 where
  pub parts : model ≡ model_of names d
  pub rules : IsModel model

-- the model is that of the definitions, whose names these are
pub record Shows (definitions : List Definition) (names : FileNames) (model : Parts) : Type 0 where
  pub lowered : Defined
  pub told : defined_by names.entries definitions ≡ Ok lowered
  pub shows : IsModelOf names lowered model

-- the names of the parts of each node are those of what the definitions are lowered to
pub record AreParts (definitions : List Definition) (names : FileNames) (nodes : List (List (List ℕ))) : Type 0 where
  pub lowered : Defined
  pub told : defined_by names.entries definitions ≡ Ok lowered
  pub named : nodes ≡ lowered.types.names

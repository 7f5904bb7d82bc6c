-- What a file is lowered to under its own names: it is a model where its paths are short enough.
use Rattle.std.specs.Prelude.{◌≡◌, All, List, length, EachIndex, Ok}
use Rattle.idl_tree.specs.declared.definitions.Definition.{Definition}
use Rattle.type_graph.specs.GraphRules.{IsGraph, IsShallow}
use Rattle.type_model.specs.ModelRules.{IsModel}
use Rattle.scoped_names.specs.FileNames.{AreNames, FileNames}
use Rattle.type_model.specs.PartNamesNames.{AreApart}
use Rattle.lowered_operations.specs.Definitions.{defined_by}
use Rattle.lowered_operations.specs.Operations.{Defined}
use Rattle.model_builder.specs.Shown.{model_of}
use Rattle.model_builder.specs.inner.Theirs.{AreTheirs}

pub record IsOwn (names : FileNames) (d : Defined) : Type 0 where
  pub theirs : AreTheirs (length names.entries) d
  pub graph : EachIndex d.types.nodes (IsShallow 64 d.types.nodes) → IsGraph d.types.nodes
  pub model : IsGraph d.types.nodes → IsModel (model_of names d)
  pub apart : All AreApart d.types.names

-- it is what the definitions are lowered to, whose names these are
pub record IsLowered (definitions : List Definition) (names : FileNames) (d : Defined) : Type 0 where
  pub own : AreNames definitions names
  pub told : defined_by names.entries definitions ≡ Ok d

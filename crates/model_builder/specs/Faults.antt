-- The faults of a file's types: the first in the order of reading, and where there is none a type that holds itself or
-- too long a path.
use Rattle.std.specs.Prelude.{◌≡◌, ◌⊎◌, List, Ok, Err}
use Rattle.idl_tree.specs.declared.definitions.Definition.{Definition}
use Rattle.type_graph.specs.declared.fault.GraphLimit.TheVariants.{Path}
use Rattle.type_paths.specs.declared.fault.PathFault.{PathFault}
use Rattle.type_paths.specs.declared.fault.PathFault.TheVariants as Paths
use Rattle.type_paths.specs.Paths.{IsPathFault}
use Rattle.scoped_names.specs.FileNames.{FileNames}
use Rattle.lowered_types.specs.declared.fault.BuildFault.TheVariants.{Types as TypesLowered}
use Rattle.lowered_types.specs.declared.fault.TypeFault.{TypeFault}
use Rattle.lowered_types.specs.declared.fault.TypeFault.TheVariants.{SelfHeld, Limit}
use Rattle.lowered_types.specs.Lowered.{Lowered}
use Rattle.lowered_operations.specs.Operations.{Defined}
use Rattle.lowered_operations.specs.Definitions.{defined_by}
use Rattle.model_builder.specs.declared.fault.ModelFault.{ModelFault}
use Rattle.model_builder.specs.declared.fault.ModelFault.TheVariants.{Types, NoMemory}

abbrev pub path_told : PathFault → TypeFault
path_told (Paths.SelfHeld at) = SelfHeld at
path_told (Paths.LongPath at) = Limit Path 64 at

-- a type holds itself, or a path is too long; the basic types have no sites
pub record IsFaultOfPaths (w : Lowered) (fault : TypeFault) : Type 0 where
  pub path : PathFault
  pub is : IsPathFault w.nodes 14 w.sites path
  pub told : fault ≡ path_told path

-- where all is read
pub record IsLateFault (definitions : List Definition) (names : FileNames) (fault : TypeFault) : Type 0 where
  pub lowered : Defined
  pub told : defined_by names.entries definitions ≡ Ok lowered
  pub late : IsFaultOfPaths lowered.types fault

abbrev pub IsFault : List Definition → FileNames → TypeFault → Type 0
IsFault definitions names fault =
    (defined_by names.entries definitions ≡ Err (TypesLowered fault)) ⊎ IsLateFault definitions names fault

-- why there is no model
abbrev pub IsRefused : List Definition → FileNames → ModelFault → Type 0
IsRefused definitions names (Types fault) = IsFault definitions names fault
IsRefused definitions names NoMemory = Unit {0}

-- the same behind what is lowered
abbrev pub IsRefusedBehind : Lowered → ModelFault → Type 0
IsRefusedBehind w (Types fault) = IsFaultOfPaths w fault
IsRefusedBehind w NoMemory = Unit {0}

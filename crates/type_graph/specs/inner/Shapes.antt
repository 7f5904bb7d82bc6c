-- What is computed of each node of a graph, and kept in a table.
use Rattle.std.specs.Prelude.{◌≡◌, ℕ, zero, suc, pos, ◌+◌, ◌^◌, ◌<◌, Option, Some, List, [], length, replicate, sum_by, slice_index_or}
use Rattle.std.specs.Option.{SomeIff}
use Rattle.std.specs.List.{AllByRecursion}
use Rattle.type_graph.specs.declared.width.Width.{Width}
use Rattle.type_graph.specs.declared.width.Width.TheVariants.{One}
use Rattle.type_graph.specs.declared.node.Node.{Node}
use Rattle.type_graph.specs.declared.node.Node.TheVariants.{Text, Seq, Array, Struct, Union, Frame}
use Rattle.type_graph.specs.declared.shape.Leading.{Leading}
use Rattle.type_graph.specs.declared.shape.Leading.TheVariants.{By, As}
use Rattle.type_graph.specs.declared.shape.Run.{Run}
use Rattle.type_graph.specs.declared.shape.Run.TheVariants.{Empty, Words, Mixed}
use Rattle.type_graph.specs.declared.shape.Shape.{Shape}
use Rattle.type_graph.specs.Words.{octets_in}
use Rattle.type_graph.specs.Value.{node_at, number_width, arm_of}
use Rattle.type_graph.specs.Leaves.{leaves_by, leaves_within, IsWordOf, AreWords}

-- the lead that is known, or that of the node which is named
abbrev pub lead_as : (ℕ → Width) → Leading → Width
lead_as lead (By w) = w
lead_as lead (As number) = lead number

-- how many octets the tape of the value of zeros has, where those of other nodes are known
abbrev pub size_by : (ℕ → ℕ) → List Node → Node → ℕ
size_by size graph (Text bound) = 4
size_by size graph (Seq elem bound) = 4
size_by size graph (Array elem n) = sum_by size (replicate n elem)
size_by size graph (Struct members) = sum_by size members
size_by size graph (Frame members) = sum_by size members
size_by size graph (Union switch arms default) =
    octets_in (number_width (node_at graph switch)) + sum_by size (arm_of arms default (pos 0))
size_by size graph node = octets_in (number_width node)

-- the same, within so many levels; the octet of an octet stands for what lies deeper
unfoldable pub size_within : ℕ → List Node → ℕ → ℕ
size_within zero graph number = 1
size_within (suc levels) graph number = size_by (size_within levels graph) graph (node_at graph number)

-- which words nodes are: none, so many of one width, or neither
abbrev pub IsRun : List Node → Run → Type 0
IsRun leaves Empty = leaves ≡ []
IsRun leaves (Words w n) = AreWords w n leaves
IsRun leaves Mixed = (w : Width) → AllByRecursion (IsWordOf w) leaves → 1048576 < length leaves

-- a size that 64 bits can say
abbrev pub IsSize : ℕ → Option ℕ → Type 0
IsSize octets size = SomeIff size (octets < 2 ^ 64) octets

pub record IsShape (leaves : List Node) (octets : ℕ) (shape : Shape) : Type 0 where
  pub run : IsRun leaves shape.run
  pub size : IsSize octets shape.size

-- what stands for a node that is not in the table
abbrev pub octet_shape : Shape
octet_shape = record { run = Words One 1; size = Some 1 }

-- a table of the shapes of all nodes
pub record AreShapes (table : List Shape) (leaves : ℕ → List Node) (size : ℕ → ℕ) : Type 0 where
  pub at : (number : ℕ) → IsShape (leaves number) (size number) (slice_index_or table number octet_shape)

-- the table of a list of nodes, found within so many levels
abbrev pub AreShapesWithin : ℕ → List Node → List Shape → Type 0
AreShapesWithin levels graph table = AreShapes table (leaves_within levels graph) (size_within levels graph)

-- the shape of a node, found in a table
abbrev pub IsShapeBy : List Node → List Shape → Node → Shape → Type 0
IsShapeBy graph table node shape =
    (leaves : ℕ → List Node) (size : ℕ → ℕ) → AreShapes table leaves size
    → IsShape (leaves_by leaves node) (size_by size graph node) shape

-- the table of the shapes that are found in another
pub record AreShapesBy (graph : List Node) (table next : List Shape) : Type 0 where
  pub by : (leaves : ℕ → List Node) (size : ℕ → ℕ) → AreShapes table leaves size
      → AreShapes next
      (λ number. leaves_by leaves (node_at graph number))
      (λ number. size_by size graph (node_at graph number))

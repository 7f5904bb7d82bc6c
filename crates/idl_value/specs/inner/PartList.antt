-- The nodes of the parts of a value.
use Rattle.std.specs.Prelude.{ℕ, ◌<◌, List, length, replicate}
use Rattle.std.specs.List.{AllByRecursion}
use Rattle.type_graph.specs.declared.node.Node.{Node}
use Rattle.idl_value.specs.declared.parts.Parts.{Parts}
use Rattle.idl_value.specs.declared.parts.Parts.TheVariants.{Copies, Listed}

-- in order
abbrev pub numbers_of : Parts → List ℕ
numbers_of (Copies number left) = replicate left number
numbers_of (Listed numbers) = numbers.now

-- each is in the graph
abbrev pub AreWithin : List Node → List ℕ → Type 0
AreWithin graph = AllByRecursion (λ number. number < length graph)

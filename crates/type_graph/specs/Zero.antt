-- The value of zeros of a node.
use Rattle.std.specs.Prelude.{ℕ, zero, suc, pos, List, [], ◌∷◌, replicate}
use Rattle.type_graph.specs.declared.node.Node.{Node}
use Rattle.type_graph.specs.declared.node.Node.TheVariants.{Text, Seq, Array, Struct, Union, Frame}
use Rattle.type_graph.specs.Value.{Tree, Number, Bytes, Items, Choice, Trees, NoTree, AndTree, node_at, arm_of}

-- a value for each of the nodes
abbrev pub trees_of : (ℕ → Tree) → List ℕ → Trees
trees_of tree [] = NoTree
trees_of tree (number ∷ numbers) = AndTree (tree number) (trees_of tree numbers)

-- numbers are 0, strings and sequences empty; a union has the discriminator 0 and what that chooses
abbrev pub zero_by : (ℕ → Tree) → Node → Tree
zero_by tree (Text bound) = Bytes []
zero_by tree (Seq elem bound) = Items NoTree
zero_by tree (Array elem n) = Items (trees_of tree (replicate n elem))
zero_by tree (Struct members) = Items (trees_of tree members)
zero_by tree (Frame members) = Items (trees_of tree members)
zero_by tree (Union switch arms default) = Choice (pos 0) (trees_of tree (arm_of arms default (pos 0)))
zero_by tree node = Number (pos 0)

-- the same, within so many levels; the number 0 stands for what lies deeper
unfoldable pub zero_value : ℕ → List Node → ℕ → Tree
zero_value zero graph number = Number (pos 0)
zero_value (suc levels) graph number = zero_by (zero_value levels graph) (node_at graph number)

-- in a graph nothing lies deeper than 64 levels
abbrev pub zero_of : List Node → ℕ → Tree
zero_of graph number = zero_value 64 graph number

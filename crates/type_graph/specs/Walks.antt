-- What is read off a graph by going down from a node without passing a sequence.
use Rattle.std.specs.Prelude.{ℕ, zero, suc, max, List, [], ◌∷◌}
use Rattle.type_graph.specs.declared.width.Width.{Width}
use Rattle.type_graph.specs.declared.width.Width.TheVariants.{One, Four}
use Rattle.type_graph.specs.declared.node.Node.{Node}
use Rattle.type_graph.specs.declared.node.Node.TheVariants.{Text, Seq, Array, Struct, Union, Frame}
use Rattle.type_graph.specs.Value.{node_at, number_width}
use Rattle.type_graph.specs.GraphRules.{held_by}

-- the first of some alignments; none is that of a single octet
abbrev pub first_lead : (ℕ → Width) → List ℕ → Width
first_lead lead [] = One
first_lead lead (number ∷ numbers) = lead number

-- the alignment with which the octets of a node's values begin, where those of the nodes that it holds are known
abbrev pub lead_by : (ℕ → Width) → List Node → Node → Width
lead_by lead graph (Text bound) = Four
lead_by lead graph (Seq elem bound) = Four
lead_by lead graph (Array elem n) = lead elem
lead_by lead graph (Struct members) = first_lead lead members
lead_by lead graph (Frame members) = first_lead lead members
lead_by lead graph (Union switch arms default) = number_width (node_at graph switch)
lead_by lead graph node = number_width node

-- the same, looked for within so many levels
unfoldable pub lead_within : ℕ → List Node → ℕ → Width
lead_within zero graph number = One
lead_within (suc levels) graph number = lead_by (lead_within levels graph) graph (node_at graph number)

-- in a graph it is found within 64 levels
abbrev pub lead_of : List Node → ℕ → Width
lead_of graph number = lead_within 64 graph number

-- one more than the greatest; 0 for none
abbrev pub above : (ℕ → ℕ) → List ℕ → ℕ
above height [] = 0
above height (number ∷ numbers) = max (suc (height number)) (above height numbers)

-- how many steps the longest path downwards from a node has, looked for within so many levels
unfoldable pub height_within : ℕ → List Node → ℕ → ℕ
height_within zero graph number = 0
height_within (suc levels) graph number = above (height_within levels graph) (held_by (node_at graph number))

-- in a graph it is found within 64 levels
abbrev pub height_of : List Node → ℕ → ℕ
height_of graph number = height_within 64 graph number

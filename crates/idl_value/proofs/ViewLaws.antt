-- The tree of a value by what the value is.
use Rattle.std.proofs.Common.{◌≡◌, ℕ, ℤ, List, Option, Vec, Global, Some, None, slice_get, sym, subst, rules}
use Rattle.std.specs.Prelude.{Box}
use Rattle.std.proofs.lemmas.Option.{slice_get_within, get_or_from_slice_get}
use Rattle.type_graph.specs.declared.node.Node.{Node}
use Rattle.type_graph.specs.declared.node.Node.TheVariants.{Octet}
use Rattle.type_graph.specs.Value.{Number, Bytes, Items, Choice, node_at}
use Rattle.type_graph.specs.GraphRules.{IsNode, IsGraph}
use Rattle.idl_value.specs.declared.value.Value.{Value}
use Rattle.idl_value.specs.declared.value.Value.TheVariants as value
use Rattle.idl_value.specs.declared.value.Value.TheFolds.{the_lemmas}
use Rattle.idl_value.specs.View.{tree_of, trees_of, member_of}

pub tree_of-whole : (n : ℤ) → tree_of (value.Integer n) ≡ Number n
tree_of-whole n = search (rules, the_lemmas)

pub tree_of-text : (text : Vec ℕ Global) → tree_of (value.Text text) ≡ Bytes text.items
tree_of-text text = search (rules, the_lemmas)

pub tree_of-items : (values : Vec Value Global) → tree_of (value.Items values) ≡ Items (trees_of values.items)
tree_of-items values = search (rules, the_lemmas)

pub tree_of-choice : (a : ℤ) (member : Option (Box Value Global))
    → tree_of (value.Choice a member) ≡ Choice a (member_of member)
tree_of-choice a None = search (rules, the_lemmas)
tree_of-choice a (Some member) = search (rules, the_lemmas)

-- the node that is found at a number
pub found_node : (graph : List Node) (number : ℕ) (node : Node) → slice_get graph number ≡ Some node
    → node ≡ node_at graph number
found_node graph number node e = sym (get_or_from_slice_get graph number node Octet e)

-- keeps the rules of a node
pub found_rules : (graph : List Node) (number : ℕ) (node : Node) → IsGraph graph → slice_get graph number ≡ Some node
    → IsNode graph node
found_rules graph number node rules_of_graph e =
    subst (IsNode graph) (get_or_from_slice_get graph number node Octet e)
    (rules_of_graph.nodes number Octet (slice_get_within graph number node e))

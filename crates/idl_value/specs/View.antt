-- A value as the value tree of the definitions.
use Rattle.std.specs.Prelude.{List, [], ◌∷◌, map, Option, Some, None, Box}
use Rattle.std.specs.declared.alloc.Global.{Global}
use Rattle.type_graph.specs.Value.{Tree, Number, Bytes, Items, Choice, Trees, NoTree, AndTree}
use Rattle.idl_value.specs.declared.value.Value.{Value}
use Rattle.idl_value.specs.declared.value.Value.TheOpen.{Value-F}
use Rattle.idl_value.specs.declared.value.Value.TheOpen as layer
use Rattle.idl_value.specs.declared.value.Value.TheFolds.{fold-Value}

abbrev pub trees_from : List Tree → Trees
trees_from [] = NoTree
trees_from (tree ∷ more) = AndTree tree (trees_from more)

-- the member of a union, none or one
abbrev pub member_from : Option (Box Tree Global) → Trees
member_from None = NoTree
member_from (Some member) = AndTree member.value NoTree

-- one level of a value, with the trees of what it holds in their places
abbrev pub tree_step : Value-F Tree → Tree
tree_step (layer.Integer n) = Number n
tree_step (layer.Text text) = Bytes text.items
tree_step (layer.Items values) = Items (trees_from values.items)
tree_step (layer.Choice a member) = Choice a (member_from member)

abbrev pub tree_of : Value → Tree
tree_of = fold-Value Tree tree_step

-- of several values
abbrev pub trees_of : List Value → Trees
trees_of values = trees_from (map tree_of values)

-- of a union's member
abbrev pub member_of : Option (Box Value Global) → Trees
member_of None = NoTree
member_of (Some member) = AndTree (tree_of member.value) NoTree

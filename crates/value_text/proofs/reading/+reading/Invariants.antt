use Rattle.std.proofs.Common.{◌≡◌, ◌+◌, ◌*◌, ◌≤◌, length, take, replicate, option_to_list}
use Rattle.type_model.specs.PartNamesNames.{names_at}
use Rattle.idl_value.specs.View.{trees_of}
use Rattle.type_graph.specs.declared.node.Node.TheVariants.{Union}
use Rattle.type_graph.specs.GraphRules.{held_by}
use Rattle.type_graph.specs.Walks.{above, height_of}
use Rattle.value_text.specs.inner.Reading.{ReadsParts, ReadsSlots}
use Rattle.value_text.proofs.reading.+reading.Given as goal

-- A sequence takes one of the depth, and everything else goes down in the graph.
abbrev pub decreases-read_value : goal.decreases-read_value
decreases-read_value l = 4 * (66 * l.depth + height_of l.types.now.graph.now l.number) + 3

abbrev pub decreases-read_elements : goal.decreases-read_elements
decreases-read_elements l = 4 * (66 * l.depth + height_of l.types.now.graph.now l.elem) + 6

abbrev pub decreases-read_items : goal.decreases-read_items
decreases-read_items l = 4 * (66 * l.depth + height_of l.types.now.graph.now l.elem) + 5

abbrev pub decreases-read_list : goal.decreases-read_list
decreases-read_list l = 4 * (66 * l.depth + height_of l.types.now.graph.now l.elem) + 4

abbrev pub decreases-read_structure : goal.decreases-read_structure
decreases-read_structure l = 4 * (66 * l.depth + above (height_of l.types.now.graph.now) l.members.now) + 2

abbrev pub decreases-read_members : goal.decreases-read_members
decreases-read_members l = 4 * (66 * l.depth + above (height_of l.types.now.graph.now) l.members.now) + 1

abbrev pub decreases-read_row : goal.decreases-read_row
decreases-read_row l = 4 * (66 * l.depth + above (height_of l.types.now.graph.now) l.members.now)

abbrev pub decreases-read_object : goal.decreases-read_object
decreases-read_object l = 4 * (66 * l.depth + above (height_of l.types.now.graph.now) l.members.now)

abbrev pub decreases-read_choice : goal.decreases-read_choice
decreases-read_choice l =
    4 * (66 * l.depth + above (height_of l.types.now.graph.now) (held_by (Union l.switch l.arms.now l.default))) + 2

abbrev pub decreases-read_chosen : goal.decreases-read_chosen
decreases-read_chosen l = 4 * (66 * l.depth + above (height_of l.types.now.graph.now) (option_to_list l.chosen))

abbrev pub invariant-read_list-loop-token : goal.invariant-read_list-loop-token
invariant-read_list-loop-token l =
    ReadsParts l.types.names.now l.types.graph.now (replicate (length l.values.items) l.elem) l.depth l.fn.cursor
    (trees_of l.values.items) l.cursor
    × (length l.values.items ≤ l.most)

abbrev pub decreases-read_list-loop-token : goal.decreases-read_list-loop-token
decreases-read_list-loop-token l = length l.cursor

abbrev pub invariant-read_row-loop-member : goal.invariant-read_row-loop-member
invariant-read_row-loop-member l =
    ReadsParts l.types.names.now l.types.graph.now (take l.member-index l.members) l.depth l.fn.cursor
    (trees_of l.values.items) l.cursor

abbrev pub invariant-read_object-each : goal.invariant-read_object-each
invariant-read_object-each l =
    (length l.slots.items ≡ length l.members)
    × ReadsSlots l.types.names.now l.types.graph.now (names_at l.types.names.now l.number) l.members l.depth l.fn.cursor
    l.slots.items l.cursor

abbrev pub decreases-read_object-each : goal.decreases-read_object-each
decreases-read_object-each l = length l.cursor

-- The parts of a table file, each as its octets: a line for each line of the format.
use Rattle.std.specs.Prelude.{ℕ, ℤ, List, [], Option, Some}
use Rattle.std.specs.Fmt.{◌++?◌}
use Rattle.type_graph.specs.declared.width.Width.{Width}
use Rattle.type_graph.specs.declared.node.Node.{Node}
use Rattle.type_graph.specs.declared.node.Node.TheVariants as nodes
use Rattle.type_graph.specs.Words.{octets_in}
use Rattle.type_model.specs.declared.signatures.Interface.{Interface}
use Rattle.type_model.specs.declared.signatures.Operation.{Operation}
use Rattle.type_model.specs.declared.signatures.Exception.{Exception}
use Rattle.type_model.specs.ModelRules.{Parts}
use Rattle.marshal_program.specs.declared.instr.Disc.{Disc}
use Rattle.marshal_program.specs.declared.instr.Disc.TheVariants as discs
use Rattle.marshal_program.specs.declared.instr.Instr.{Instr}
use Rattle.marshal_program.specs.declared.instr.Instr.TheVariants as instrs
use Rattle.marshal_program.specs.declared.instr.Routine.{Routine}
use Rattle.table_file.specs.Octets.{Tagged, spelled_tagged, spelled_octet, spelled_word, spelled_label, spelled_flag, spelled_maybe, spelled_run, spelled_list, spelled_pair, spelled_text}

-- how many octets it has, as an octet
abbrev pub spelled_width : Width → Option (List ℕ)
spelled_width width = spelled_octet (octets_in width)

-- a label and a number
abbrev pub spelled_arm : ℤ × ℕ → Option (List ℕ)
spelled_arm = spelled_pair spelled_label spelled_word

-- each kind of node
abbrev pub tagged_node : Node → Tagged
tagged_node (nodes.Integer width signed) = (0, spelled_width width ++? spelled_flag signed)
tagged_node nodes.Octet = (1, Some [])
tagged_node nodes.Char = (2, Some [])
tagged_node nodes.Boolean = (3, Some [])
tagged_node (nodes.Enum n) = (4, spelled_word n)
tagged_node (nodes.Text bound) = (5, spelled_word bound)
tagged_node (nodes.Seq elem bound) = (6, spelled_word elem ++? spelled_word bound)
tagged_node (nodes.Array elem n) = (7, spelled_word elem ++? spelled_word n)
tagged_node (nodes.Struct members) = (8, spelled_list spelled_word members)
tagged_node (nodes.Union switch arms default) =
    (9, spelled_word switch ++? spelled_list spelled_arm arms ++? spelled_maybe default)
tagged_node (nodes.Frame members) = (10, spelled_list spelled_word members)

abbrev pub spelled_node : Node → Option (List ℕ)
spelled_node x = spelled_tagged (tagged_node x)

-- a name and its node
abbrev pub spelled_name : List ℕ × ℕ → Option (List ℕ)
spelled_name = spelled_pair spelled_text spelled_word

-- the repository ids of all bases, and the places of all operations
abbrev pub spelled_interface : Interface → Option (List ℕ)
spelled_interface x =
    spelled_text x.name ++? spelled_text x.id ++? spelled_list spelled_text x.bases
    ++? spelled_list spelled_word x.operations

abbrev pub spelled_operation : Operation → Option (List ℕ)
spelled_operation x =
    spelled_text x.name ++? spelled_flag x.oneway ++? spelled_word x.request ++? spelled_word x.reply
    ++? spelled_list spelled_word x.exceptions

abbrev pub spelled_exception : Exception → Option (List ℕ)
spelled_exception x = spelled_text x.name ++? spelled_text x.id ++? spelled_word x.frame

-- the graph first
abbrev pub spelled_model : Parts → Option (List ℕ)
spelled_model model = spelled_list spelled_node model.graph ++? spelled_list spelled_name model.names
    ++? spelled_list spelled_interface model.interfaces ++? spelled_list spelled_operation model.operations
    ++? spelled_list spelled_exception model.exceptions

-- each kind of discriminator
abbrev pub tagged_disc : Disc → Tagged
tagged_disc discs.Char = (0, Some [])
tagged_disc discs.Boolean = (1, Some [])
tagged_disc (discs.Word width signed) = (2, spelled_width width ++? spelled_flag signed)
tagged_disc (discs.Enum n) = (3, spelled_word n)

abbrev pub spelled_disc : Disc → Option (List ℕ)
spelled_disc x = spelled_tagged (tagged_disc x)

-- each instruction
abbrev pub tagged_instr : Instr → Tagged
tagged_instr (instrs.Align to) = (0, spelled_width to)
tagged_instr (instrs.Octets n) = (1, spelled_word n)
tagged_instr (instrs.Words width n) = (2, spelled_width width ++? spelled_word n)
tagged_instr (instrs.Bools n) = (3, spelled_word n)
tagged_instr (instrs.EnumWord limit) = (4, spelled_word limit)
tagged_instr (instrs.Text bound) = (5, spelled_word bound)
tagged_instr (instrs.SeqOctets bound) = (6, spelled_word bound)
tagged_instr (instrs.SeqBools bound) = (7, spelled_word bound)
tagged_instr (instrs.SeqWords width first bound) =
    (8, spelled_width width ++? spelled_width first ++? spelled_word bound)
tagged_instr (instrs.SeqOf bound first routine) =
    (9, spelled_word bound ++? spelled_width first ++? spelled_word routine)
tagged_instr (instrs.Times n routine) = (10, spelled_word n ++? spelled_word routine)
tagged_instr (instrs.Call routine) = (11, spelled_word routine)
tagged_instr (instrs.Switch disc arms otherwise) =
    (12, spelled_disc disc ++? spelled_list spelled_arm arms ++? spelled_maybe otherwise)

abbrev pub spelled_instr : Instr → Option (List ℕ)
spelled_instr x = spelled_tagged (tagged_instr x)

-- the set of entries, and the set of exits for each of eight positions
abbrev pub spelled_routine : Routine → Option (List ℕ)
spelled_routine x =
    spelled_word x.node ++? spelled_octet x.entry ++? spelled_run 8 spelled_octet x.exits ++? spelled_word x.rank
    ++? spelled_list spelled_instr x.code

abbrev pub spelled_program : List Routine → Option (List ℕ)
spelled_program = spelled_list spelled_routine

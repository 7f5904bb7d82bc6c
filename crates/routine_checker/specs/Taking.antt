-- Work is a list of nodes whose values are still to be related, in order. An instruction takes pieces from its front;
-- an array, a structure or a frame at the front is opened where it isn't a piece itself.
use Rattle.std.specs.Prelude.{ℕ, zero, suc, Bool, true, false, ◌&&◌, eqb, ℤ, List, [], ◌∷◌, ◌++◌, replicate}
use Rattle.std.specs.Prelude.{Option, Some, None, slice_get, if◌then◌else◌}
use Rattle.std.specs.Ordering.{int_eq}
use Rattle.type_graph.specs.declared.width.Width.{Width}
use Rattle.type_graph.specs.declared.node.Node.{Node}
use Rattle.type_graph.specs.declared.node.Node.TheVariants as nodes
use Rattle.type_graph.specs.Words.{octets_in}
use Rattle.type_graph.specs.Value.{node_at}
use Rattle.marshal_program.specs.declared.instr.Disc.{Disc}
use Rattle.marshal_program.specs.declared.instr.Disc.TheVariants as discs
use Rattle.marshal_program.specs.declared.instr.Instr.{Instr}
use Rattle.marshal_program.specs.declared.instr.Instr.TheVariants.{Align, Octets, Words, Bools, EnumWord, Text}
use Rattle.marshal_program.specs.declared.instr.Instr.TheVariants.{SeqOctets, SeqBools, SeqWords, SeqOf, Times, Call, Switch}
use Rattle.marshal_program.specs.declared.instr.Routine.{Routine}

-- ---- opening

-- the elements of an array, the members of a structure or a frame
abbrev pub parts_of : Node → Option (List ℕ)
parts_of (nodes.Array elem n) = Some (replicate n elem)
parts_of (nodes.Struct members) = Some members
parts_of (nodes.Frame members) = Some members
parts_of node = None

-- the parts of a node, if it has some, go in the place of it
abbrev pub opened : {A : Type 0} → A → (List ℕ → A) → Option (List ℕ) → List ℕ → A
opened none further None more = none
opened none further (Some parts) more = further (parts ++ more)

-- what is behind the first wanted node, where nothing but opened nodes stands before it
abbrev pub taken_by : (List ℕ → Option (List ℕ)) → (ℕ → Bool) → List Node → List ℕ → Option (List ℕ)
taken_by further wanted graph [] = None
taken_by further wanted graph (number ∷ more) =
    if wanted number then Some more else opened None further (parts_of (node_at graph number)) more

unfoldable pub taken_within : ℕ → (ℕ → Bool) → List Node → List ℕ → Option (List ℕ)
taken_within zero wanted graph work = None
taken_within (suc levels) wanted graph work = taken_by (taken_within levels wanted graph) wanted graph work

abbrev pub and_then : (List ℕ → Option (List ℕ)) → Option (List ℕ) → Option (List ℕ)
and_then further None = None
and_then further (Some work) = further work

-- what is behind the first n wanted nodes; in a graph no path downwards has more than 64 nodes
unfoldable pub taken : ℕ → (ℕ → Bool) → List Node → List ℕ → Option (List ℕ)
taken zero wanted graph work = Some work
taken (suc n) wanted graph work = and_then (taken n wanted graph) (taken_within 64 wanted graph work)

-- nothing but empty frames is left
abbrev pub is_done_by : (List ℕ → Bool) → List Node → List ℕ → Bool
is_done_by further graph [] = true
is_done_by further graph (number ∷ more) = opened false further (parts_of (node_at graph number)) more

unfoldable pub is_done_within : ℕ → List Node → List ℕ → Bool
is_done_within zero graph work = false
is_done_within (suc levels) graph work = is_done_by (is_done_within levels graph) graph work

-- ---- nodes of which an instruction takes one

abbrev pub is_octet : Node → Bool
is_octet nodes.Octet = true
is_octet nodes.Char = true
is_octet node = false

abbrev pub is_whole : Width → Node → Bool
is_whole width (nodes.Integer wide signed) = eqb (octets_in width) (octets_in wide)
is_whole width node = false

abbrev pub is_boolean : Node → Bool
is_boolean nodes.Boolean = true
is_boolean node = false

abbrev pub is_enum : ℕ → Node → Bool
is_enum limit (nodes.Enum n) = eqb limit n
is_enum limit node = false

abbrev pub is_text : ℕ → Node → Bool
is_text bound (nodes.Text limit) = eqb bound limit
is_text bound node = false

-- a sequence of this bound, and the fact holds of its element
abbrev pub is_seq : ℕ → (ℕ → Bool) → Node → Bool
is_seq bound holds (nodes.Seq elem limit) = eqb bound limit && holds elem
is_seq bound holds node = false

-- the only part of a node that has just one
abbrev pub only_part : (ℕ → Bool) → Node → Bool
only_part holds (nodes.Array elem n) = eqb n 1 && holds elem
only_part holds (nodes.Struct (member ∷ [])) = holds member
only_part holds node = false

-- the fact holds of the node, or of the only part of it
unfoldable pub is_one : ℕ → (Node → Bool) → List Node → ℕ → Bool
is_one zero holds graph number = false
is_one (suc levels) holds graph number =
    if holds (node_at graph number) then true else only_part (is_one levels holds graph) (node_at graph number)

-- the routine is there, and is one of the node
abbrev pub is_node_of : Option Routine → ℕ → Bool
is_node_of None number = false
is_node_of (Some routine) number = eqb routine.node number

abbrev pub is_routine_of : List Routine → ℕ → ℕ → Bool
is_routine_of program routine number = is_node_of (slice_get program routine) number

abbrev pub is_disc_of : Disc → Node → Bool
is_disc_of discs.Char nodes.Char = true
is_disc_of discs.Boolean nodes.Boolean = true
is_disc_of (discs.Word width true) (nodes.Integer wide true) = eqb (octets_in width) (octets_in wide)
is_disc_of (discs.Word width false) (nodes.Integer wide false) = eqb (octets_in width) (octets_in wide)
is_disc_of (discs.Enum n) (nodes.Enum limit) = eqb n limit
is_disc_of disc node = false

-- the same labels, each with a routine of the node that stands beside it
abbrev pub are_arms_of : List Routine → List (ℤ × ℕ) → List (ℤ × ℕ) → Bool
are_arms_of program [] [] = true
are_arms_of program (arm ∷ arms) (member ∷ members) =
    int_eq arm.0 member.0 && is_routine_of program arm.1 member.1 && are_arms_of program arms members
are_arms_of program arms members = false

-- none, or a routine of the default's node
abbrev pub is_default_of : List Routine → Option ℕ → Option ℕ → Bool
is_default_of program None None = true
is_default_of program (Some routine) (Some number) = is_routine_of program routine number
is_default_of program routine number = false

abbrev pub is_switch_of : List Node → List Routine → Disc → List (ℤ × ℕ) → Option ℕ → Node → Bool
is_switch_of graph program disc arms otherwise (nodes.Union switch members default) =
    is_disc_of disc (node_at graph switch) && are_arms_of program arms members
    && is_default_of program otherwise default
is_switch_of graph program disc arms otherwise node = false

-- whether the instruction does the work of the node, or a piece of its work
abbrev pub is_piece : List Node → List Routine → Instr → ℕ → Bool
is_piece graph program (Align to) number = false
is_piece graph program (Octets n) number = is_octet (node_at graph number)
is_piece graph program (Words width n) number = is_whole width (node_at graph number)
is_piece graph program (Bools n) number = is_boolean (node_at graph number)
is_piece graph program (EnumWord limit) number = is_enum limit (node_at graph number)
is_piece graph program (Text bound) number = is_text bound (node_at graph number)
is_piece graph program (SeqOctets bound) number = is_seq bound (is_one 64 is_octet graph) (node_at graph number)
is_piece graph program (SeqBools bound) number = is_seq bound (is_one 64 is_boolean graph) (node_at graph number)
is_piece graph program (SeqWords width first bound) number =
    is_seq bound (is_one 64 (is_whole width) graph) (node_at graph number)
is_piece graph program (SeqOf bound first routine) number =
    is_seq bound (is_routine_of program routine) (node_at graph number)
is_piece graph program (Times n routine) number = is_routine_of program routine number
is_piece graph program (Call routine) number = is_routine_of program routine number
is_piece graph program (Switch disc arms otherwise) number =
    is_switch_of graph program disc arms otherwise (node_at graph number)

-- how many of them it takes
abbrev pub pieces : Instr → ℕ
pieces (Align to) = 0
pieces (Octets n) = n
pieces (Words width n) = n
pieces (Bools n) = n
pieces (Times n routine) = n
pieces instr = 1

-- The attributes of an object, and what its operations do (ISO/IEC 19500-1, attribute declaration): an attribute `x` is
-- got by the operation `_get_x`, and set by `_set_x` unless it is readonly.
use Rattle.std.specs.Prelude.{ℕ, suc, ◌<◌, Bool, false, cond, nat_eq, is_some, List, [], ◌∷◌, length, take, drop, map, filter, codes}
use Rattle.std.specs.Prelude.{Option, Some, None, slice_get}
use Rattle.std.specs.Option.{option_and_then, option_map_or}
use Rattle.std.specs.Str.{bytes_eq}
use Rattle.std.specs.Cmp.Lexicographic.{pointwise}
use Rattle.type_graph.specs.declared.node.Node.{Node}
use Rattle.type_graph.specs.declared.node.Node.TheVariants.{Frame}
use Rattle.type_graph.specs.Value.{node_at, tape_of}
use Rattle.type_graph.specs.Zero.{zero_of}
use Rattle.type_model.specs.declared.signatures.Operation.{Operation}
use Rattle.type_model.specs.ModelRules.{Parts}
use Rattle.broker_answers.specs.declared.attribute_keeper.action.Action.{Action}
use Rattle.broker_answers.specs.declared.attribute_keeper.action.Action.TheVariants.{Get, Set, Empty, Echo, Nothing}

-- ---- names

-- what follows a front of a name
abbrev pub behind : List ℕ → List ℕ → Option (List ℕ)
behind front name = cond (bytes_eq (take (length front) name) front) (Some (drop (length front) name)) None

-- the name of the attribute that an operation gets, and of the one that it sets
abbrev pub got_by : Operation → Option (List ℕ)
got_by operation = behind (codes "_get_") operation.name

abbrev pub set_by : Operation → Option (List ℕ)
set_by operation = behind (codes "_set_") operation.name

-- whether it gets the attribute of a name
abbrev pub gets : List ℕ → Operation → Bool
gets name operation = option_map_or (λ other. bytes_eq other name) (got_by operation) false

-- ---- the attributes of an object

-- the operations of an interface; a place past the last interface has none
abbrev pub operations_at : Parts → ℕ → List ℕ
operations_at model interface = option_map_or (λ i. i.operations) (slice_get model.interfaces interface) []

-- whether the operation of a number gets an attribute, and whether that of a name
abbrev pub is_getter : Parts → ℕ → Bool
is_getter model number =
    option_map_or (λ operation. is_some (got_by operation)) (slice_get model.operations number) false

abbrev pub is_getter_of : Parts → List ℕ → ℕ → Bool
is_getter_of model name number = option_map_or (gets name) (slice_get model.operations number) false

-- of an object's operations those that get an attribute, one for each attribute
abbrev pub getters_of : Parts → List ℕ → List ℕ
getters_of model numbers = filter (is_getter model) numbers

-- the place of the first attribute of a name, where the first of all has this place
abbrev pub place_from : Parts → ℕ → List ℕ → List ℕ → Option ℕ
place_from model n name [] = None
place_from model n name (getter ∷ more) =
    cond (is_getter_of model name getter) (Some n) (place_from model (suc n) name more)

-- the place of the attribute of a name
abbrev pub attribute_named : Parts → List ℕ → List ℕ → Option ℕ
attribute_named model getters name = place_from model 0 name getters

-- ---- what an operation does

-- the frames of an operation are nodes of the graph
pub record HasFrames (graph : List Node) (operation : Operation) : Type 0 where
  pub request : operation.request < length graph
  pub reply : operation.reply < length graph

-- the members of a frame
abbrev pub members_of : Node → List ℕ
members_of (Frame members) = members
members_of node = []

-- by the members of the frames of request and reply: there is nothing to answer, the answer is of the same types as
-- the arguments, or it is something else
abbrev pub action_by : List ℕ → List ℕ → Action
action_by request [] = Empty
action_by request (member ∷ more) = cond (pointwise nat_eq request (member ∷ more)) Echo Nothing

abbrev pub frame_action : List Node → Operation → Action
frame_action graph operation =
    action_by (members_of (node_at graph operation.request)) (members_of (node_at graph operation.reply))

-- it gets an attribute, or sets one, or else
abbrev pub action_or : Option ℕ → Option ℕ → Action → Action
action_or (Some attribute) set other = Get attribute
action_or None (Some attribute) other = Set attribute
action_or None None other = other

-- what an operation does, where the attributes of an object are at these places by their names
abbrev pub action_where : (List ℕ → Option ℕ) → List Node → Operation → Action
action_where place graph operation =
    action_or (option_and_then place (got_by operation)) (option_and_then place (set_by operation))
    (frame_action graph operation)

-- what that of a number does
abbrev pub action_at : (List ℕ → Option ℕ) → Parts → ℕ → Action
action_at place model number =
    option_map_or (action_where place model.graph) (slice_get model.operations number) Nothing

-- operations by their numbers, and what each does
abbrev pub with_actions : Parts → List ℕ → List ℕ → List (ℕ × Action)
with_actions model getters numbers =
    map (λ number. (number, action_at (attribute_named model getters) model number)) numbers

-- ---- tapes

-- the tape of zeros of a node
abbrev pub zero_tape : List Node → ℕ → List ℕ
zero_tape graph number = tape_of graph (node_at graph number) (zero_of graph number)

-- that of the reply of an operation
abbrev pub first_tape : Parts → ℕ → List ℕ
first_tape model number =
    option_map_or (λ operation. zero_tape model.graph operation.reply) (slice_get model.operations number) []

-- the tape of each attribute at first
abbrev pub first_tapes : Parts → List ℕ → List (List ℕ)
first_tapes model getters = map (first_tape model) getters

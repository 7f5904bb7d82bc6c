-- What the parts of a search for what a request asks find.
use Rattle.std.specs.Prelude.{◌≡◌, ◌⊎◌, ℕ, List, Some, None, slice_get}
use Rattle.type_graph.specs.declared.node.Node.{Node}
use Rattle.type_model.specs.declared.signatures.Interface.{Interface}
use Rattle.type_model.specs.declared.signatures.Operation.{Operation}
use Rattle.type_model.specs.ModelRules.{Parts}
use Rattle.giop_types.specs.TapeParts.{counted}
use Rattle.giop_types.specs.GiopNodes.{giop_nodes, id_argument_node}
use Rattle.giop_messages.specs.Messages.{Asked}
use Rattle.broker_answers.specs.declared.exception.BrokerException.TheVariants.{BadOperation, Marshal}
use Rattle.broker_answers.specs.declared.finding.AskedCall.{AskedCall}
use Rattle.broker_answers.specs.declared.finding.Finding.{Finding as Found}
use Rattle.broker_answers.specs.declared.finding.Finding.TheVariants as found
use Rattle.broker_answers.specs.Servants.{Call, call_of}
use Rattle.broker_answers.specs.Objects.{Served, IsNamedOperation, is_a, operation_named}
use Rattle.broker_answers.specs.Findings.{Finding, Refuses, Tells, Calls, IsRead, IsUnread}

-- the call that is asked for
abbrev pub call_asked : AskedCall → Call
call_asked asked = call_of asked.object asked.number asked.arguments.items

-- what was found says
abbrev pub finding_of : Found → Finding
finding_of (found.Refuses exception) = Refuses exception
finding_of (found.Tells truth) = Tells truth
finding_of (found.Calls asked) = Calls (call_asked asked)

-- the operation of a call is that of its number
abbrev pub IsKnown : Parts → Found → Type 0
IsKnown model (found.Refuses exception) = Unit {0}
IsKnown model (found.Tells truth) = Unit {0}
IsKnown model (found.Calls asked) = slice_get model.operations asked.number ≡ Some asked.operation.now

-- `_is_a` with an id
pub record HasId (interface : Interface) (asked : Asked) (finding : Finding) : Type 0 where
  pub id : List ℕ
  pub read : IsRead giop_nodes asked id_argument_node (counted id)
  pub finding_is : finding ≡ Tells (is_a interface id)

-- the body can't be read
pub record IsIllegible (graph : List Node) (node : ℕ) (asked : Asked) (finding : Finding) : Type 0 where
  pub unread : IsUnread graph asked node
  pub finding_is : finding ≡ Refuses Marshal

abbrev pub IsTypeAsked : Interface → Asked → Finding → Type 0
IsTypeAsked interface asked finding =
    HasId interface asked finding ⊎ IsIllegible giop_nodes id_argument_node asked finding

-- a call with arguments
pub record HasArguments (graph : List Node) (object number : ℕ) (operation : Operation) (asked : Asked)
    (finding : Finding) : Type 0 where
  pub tape : List ℕ
  pub read : IsRead graph asked operation.request tape
  pub finding_is : finding ≡ Calls (call_of object number tape)

abbrev pub IsCallAsked : List Node → ℕ → ℕ → Operation → Asked → Finding → Type 0
IsCallAsked graph object number operation asked finding =
    HasArguments graph object number operation asked finding ⊎ IsIllegible graph operation.request asked finding

-- the interface has no such operation
pub record HasNoOperation (served : Served) (interface : Interface) (asked : Asked) (finding : Finding) : Type 0 where
  pub named : operation_named served.model interface asked.operation ≡ None
  pub finding_is : finding ≡ Refuses BadOperation

-- it has
pub record HasOperation (served : Served) (object : ℕ) (interface : Interface) (asked : Asked) (finding : Finding)
    : Type 0 where
  pub number : ℕ
  pub operation : Operation
  pub is : IsNamedOperation served.model interface asked.operation number operation
  pub asked_is : IsCallAsked served.model.graph object number operation asked finding

abbrev pub IsOwnAsked : Served → ℕ → Interface → Asked → Finding → Type 0
IsOwnAsked served object interface asked finding =
    HasNoOperation served interface asked finding ⊎ HasOperation served object interface asked finding

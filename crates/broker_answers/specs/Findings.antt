-- What a request asks for.
use Rattle.std.specs.Prelude.{◌≡◌, ◌≢◌, ℕ, Bool, false, List, ◌++◌, Option, Some, None, codes}
use Rattle.type_graph.specs.declared.node.Node.{Node}
use Rattle.type_graph.specs.Words.{reading}
use Rattle.type_graph.specs.Encoding.{Means}
use Rattle.type_model.specs.declared.signatures.Interface.{Interface}
use Rattle.type_model.specs.declared.signatures.Operation.{Operation}
use Rattle.giop_types.specs.TapeParts.{counted}
use Rattle.giop_types.specs.GiopNodes.{giop_nodes, id_argument_node}
use Rattle.giop_messages.specs.Messages.{Asked}
use Rattle.broker_answers.specs.declared.exception.BrokerException.{BrokerException}
use Rattle.broker_answers.specs.declared.exception.BrokerException.TheVariants.{ObjectNotExist, BadOperation, Marshal}
use Rattle.broker_answers.specs.Servants.{Call, call_of}
use Rattle.broker_answers.specs.Objects.{Served, IsNamedOperation, object_with, interface_of, operation_named, is_a}

pub data Finding : Type 0 where
  -- nothing that can be done
  Refuses : BrokerException → Finding
  -- a question that is answered without the servant
  Tells : Bool → Finding
  -- a call of the servant
  Calls : Call → Finding

-- A front of the request's body is the value of the node that has the tape. What stands behind it isn't looked at
-- (own).
pub record IsRead (graph : List Node) (asked : Asked) (node : ℕ) (tape : List ℕ) : Type 0 where
  pub front : List ℕ
  pub rest : List ℕ
  pub body_is : asked.body ≡ front ++ rest
  pub means : Means graph (reading asked.order) 64 node asked.body_at tape front

abbrev pub IsUnread : List Node → Asked → ℕ → Type 0
IsUnread graph asked node = (tape : List ℕ) → IsRead graph asked node tape → ⊥

-- the tape that was read, if there is one
abbrev pub IsReading : List Node → Asked → ℕ → Option (List ℕ) → Type 0
IsReading graph asked node (Some tape) = IsRead graph asked node tape
IsReading graph asked node None = IsUnread graph asked node

-- the object that the request is for, and its interface
pub record IsFor (served : Served) (asked : Asked) (object : ℕ) (interface : Interface) : Type 0 where
  pub object_is : object_with served.objects asked.key ≡ Some object
  pub interface_is : interface_of served object ≡ Some interface

-- the operations that every object has (GIOP: object operations in requests)
abbrev pub is_a_name : List ℕ
is_a_name = codes "_is_a"

abbrev pub non_existent_name : List ℕ
non_existent_name = codes "_non_existent"

-- the operation is none of these
pub record IsOwn (asked : Asked) : Type 0 where
  pub no_is_a : asked.operation ≢ is_a_name
  pub no_non_existent : asked.operation ≢ non_existent_name

-- an operation of the object's interface
pub record IsOf (served : Served) (asked : Asked) (object number : ℕ) (operation : Operation) : Type 0 where
  pub interface : Interface
  pub is_for : IsFor served asked object interface
  pub own : IsOwn asked
  pub is : IsNamedOperation served.model interface asked.operation number operation

-- the first of these that holds
pub data Finds (served : Served) (asked : Asked) (finding : Finding) : Type 0 where
  -- no object has the key, or the target tells none
  NoObject : object_with served.objects asked.key ≡ None → finding ≡ Refuses ObjectNotExist → Finds served asked finding
  -- _is_a, with the id of a type
  AsksType : (object : ℕ) (interface : Interface) (id : List ℕ) → IsFor served asked object interface
      → asked.operation ≡ is_a_name → IsRead giop_nodes asked id_argument_node (counted id)
      → finding ≡ Tells (is_a interface id)
      → Finds served asked finding
  AsksNoType : (object : ℕ) (interface : Interface) → IsFor served asked object interface
      → asked.operation ≡ is_a_name → IsUnread giop_nodes asked id_argument_node → finding ≡ Refuses Marshal
      → Finds served asked finding
  -- _non_existent
  AsksWhetherGone : (object : ℕ) (interface : Interface) → IsFor served asked object interface
      → asked.operation ≡ non_existent_name → finding ≡ Tells false → Finds served asked finding
  NoOperation : (object : ℕ) (interface : Interface) → IsFor served asked object interface → IsOwn asked
      → operation_named served.model interface asked.operation ≡ None → finding ≡ Refuses BadOperation
      → Finds served asked finding
  NoArguments : (object number : ℕ) (operation : Operation) → IsOf served asked object number operation
      → IsUnread served.model.graph asked operation.request → finding ≡ Refuses Marshal → Finds served asked finding
  ForServant : (object number : ℕ) (operation : Operation) (tape : List ℕ) → IsOf served asked object number operation
      → IsRead served.model.graph asked operation.request tape → finding ≡ Calls (call_of object number tape)
      → Finds served asked finding

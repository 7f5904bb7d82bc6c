-- Requests that are sent, and how it ends.
use Rattle.std.specs.Prelude.{◌≡◌, ℕ, Bool, List, [], ◌∷◌, Option, Result, Ok, Err}
use Rattle.type_graph.specs.Value.{Tree, NoTree}
use Rattle.giop_types.specs.GiopNodes.{request_header_node}
use Rattle.giop_types.specs.Fields.{octet_trees}
use Rattle.giop_messages.specs.declared.fault.GiopFault.{GiopFault}
use Rattle.giop_messages.specs.Heads.{request_type}
use Rattle.giop_messages.specs.Headers.{request_tree}
use Rattle.giop_messages.specs.Written.{Given, IsWritten}
use Rattle.giop.specs.Addresses.{target_tree}
use Rattle.giop.specs.Refusal.{IsNotWritten}
use Rattle.iiop_broker.specs.Ends.{Adds, IsUnsent}
use Rattle.call_client.specs.declared.request.Request.{Request}
use Rattle.call_client.specs.declared.fault.CallFault.{CallFault}
use Rattle.call_client.specs.declared.fault.CallFault.TheVariants as faults

-- the header of the request: its fields, the object as it is named, and no service contexts
abbrev pub header_of : Request → Tree
header_of request =
    request_tree request.id request.flags (octet_trees (0 ∷ 0 ∷ 0 ∷ [])) (target_tree request.target)
    request.operation.now NoTree

-- the octets of the request with this body
abbrev pub IsRequest : Request → Option Given → List ℕ → Type 0
IsRequest request body octets =
    IsWritten request.order request_type request_header_node (header_of request) body octets

-- no octets can be those of it
abbrev pub IsNoRequest : Request → Option Given → GiopFault → Type 0
IsNoRequest request body fault =
    IsNotWritten fault request.order request_type request_header_node (header_of request) body

-- it is written
pub record Sent (request : Request) (body : Option Given) (before after : Option (List ℕ)) : Type 0 where
  pub octets : List ℕ
  pub is : IsRequest request body octets
  pub wrote : Adds before octets after

-- just so many octets of it are written, and then a write failed
pub record Unsent (request : Request) (body : Option Given) (sent : ℕ) (before after : Option (List ℕ)) (failure : Bool)
    : Type 0 where
  pub octets : List ℕ
  pub is : IsRequest request body octets
  pub unsent : IsUnsent before octets sent after failure

-- By what the writer tells before and after: the octets that are written, and whether a write has failed.
abbrev pub IsSending : Request → Option Given → Option (List ℕ) → Result (Unit {0}) CallFault → Option (List ℕ) → Bool
    → Type 0
IsSending request body before (Ok done) after failure = Sent request body before after
IsSending request body before (Err (faults.NotARequest fault)) after failure =
    IsNoRequest request body fault × (after ≡ before)
IsSending request body before (Err (faults.WriteFailed sent)) after failure =
    Unsent request body sent before after failure
IsSending request body before (Err fault) after failure = ⊥

-- What the bodies of replies hold that are no results (ISO/IEC 19500-2, GIOP message formats: reply body).
use Rattle.std.specs.Prelude.{◌≡◌, ℕ, List, [], ◌∷◌, ◌++◌}
use Rattle.type_graph.specs.declared.width.Order.{Order}
use Rattle.type_graph.specs.Words.{reading}
use Rattle.type_graph.specs.Value.{Tree, Bytes}
use Rattle.giop_types.specs.GiopNodes.{system_exception_node}
use Rattle.giop_types.specs.Fields.{Holds, number_tree, struct_tree}
use Rattle.reference_texts.specs.References.{Reference, reference_tree}
use Rattle.giop.specs.declared.reply_bodies.exception.SystemException.{SystemException}

-- The octets at a place of a message begin with this value of the node; whatever stands in the gaps and behind.
pub record BeginsWith (order : Order) (node place : ℕ) (value : Tree) (octets : List ℕ) : Type 0 where
  pub front : List ℕ
  pub rest : List ℕ
  pub octets_are : octets ≡ front ++ rest
  pub holds : Holds (reading order) node place value front

-- a system exception: its repository id, minor code, completion status (SystemExceptionReplyBody)
pub record Exception : Type 0 where
  pub id : List ℕ
  pub minor : ℕ
  pub completion : ℕ

abbrev pub exception_tree : Exception → Tree
exception_tree exception =
    struct_tree (Bytes exception.id ∷ number_tree exception.minor ∷ number_tree exception.completion ∷ [])

abbrev pub exception_of : SystemException → Exception
exception_of e = record { id = e.id.items; minor = e.minor; completion = e.completion }

-- what the body of SYSTEM_EXCEPTION holds
abbrev pub HoldsException : Order → ℕ → List ℕ → Exception → Type 0
HoldsException order place octets exception =
    BeginsWith order system_exception_node place (exception_tree exception) octets

-- what the body of LOCATION_FORWARD and LOCATION_FORWARD_PERM holds
abbrev pub HoldsReference : Order → ℕ → List ℕ → Reference → Type 0
HoldsReference order place octets reference = BeginsWith order 13 place (reference_tree reference) octets

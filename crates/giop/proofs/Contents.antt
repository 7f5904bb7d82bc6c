-- What messages say, from the values of their headers.
use Rattle.std.proofs.Common.{◌≡◌, ℕ, List, Ok, sym, ap, ◌∙◌, subst}
use Rattle.type_graph.specs.declared.width.Order.{Order}
use Rattle.type_graph.specs.Value.{Tree}
use Rattle.giop_messages.specs.declared.head.MessageKind.TheVariants as kinds
use Rattle.giop_messages.specs.declared.head.Head.{Head}
use Rattle.giop_messages.specs.Runs.{IsMessage}
use Rattle.giop_messages.specs.Headers.{IsKeyOf, request_tree, locate_tree}
use Rattle.giop_messages.specs.Messages.{Asked, Answered, Sought, IsWhole, HasHeader, HasBody, IsRequest, IsReply, IsCancel, IsLocate}
use Rattle.giop.specs.declared.reading.header.RequestHeader.{RequestHeader}
use Rattle.giop.specs.declared.reading.header.LocateHeader.{LocateHeader}
use Rattle.giop.specs.inner.Tapes.{Begins, IsTapeAt}
use Rattle.giop.specs.inner.Targets.{TellsTarget, IsRequestHeader, IsLocateHeader}

heads_same : (octets : List ℕ) (a b : Head) → IsMessage a octets → IsMessage b octets → a ≡ b
heads_same octets a b one two =
    let same : Ok a ≡ Ok b = sym one.head_is ∙ two.head_is in
    cc

-- the same header under the head at hand
moved : (octets : List ℕ) (a b : Head) (node : ℕ) (value : Tree) (stop : ℕ) → IsMessage a octets → IsMessage b octets
    → HasHeader octets a.order node value stop → HasHeader octets b.order node value stop
moved octets a b node value stop one two h =
    subst (λ (k : Head). HasHeader octets k.order node value stop) (heads_same octets a b one two) h

abbrev pub NoHeader : List ℕ → Head → ℕ → Type 0
NoHeader octets head node = (value : Tree) (stop : ℕ) → HasHeader octets head.order node value stop → ⊥

pub no_request : (octets : List ℕ) (head : Head) → IsWhole kinds.Request octets head → NoHeader octets head 17
    → (asked : Asked) → IsRequest octets asked → ⊥
no_request octets head is none asked s =
    none _ s.stop (moved octets s.head head 17 _ s.stop s.is.is is.is s.header)

pub no_reply : (octets : List ℕ) (head : Head) → IsWhole kinds.Reply octets head → NoHeader octets head 19
    → (answered : Answered) → IsReply octets answered → ⊥
no_reply octets head is none answered s =
    none _ s.stop (moved octets s.head head 19 _ s.stop s.is.is is.is s.header)

pub no_cancel : (octets : List ℕ) (head : Head) → IsWhole kinds.CancelRequest octets head → NoHeader octets head 22
    → (id : ℕ) → IsCancel octets id → ⊥
no_cancel octets head is none id s =
    none _ s.stop (moved octets s.head head 22 _ s.stop s.is.is is.is s.header)

pub no_locate : (octets : List ℕ) (head : Head) → IsWhole kinds.LocateRequest octets head → NoHeader octets head 20
    → (sought : Sought) → IsLocate octets sought → ⊥
no_locate octets head is none sought s =
    none _ s.stop (moved octets s.head head 20 _ s.stop s.is.is is.is s.header)

-- ---- what is said

pub request_said : (octets : List ℕ) (head : Head) (tape : List ℕ) (stop : ℕ) (header : RequestHeader) (asked : Asked)
    → IsWhole kinds.Request octets head → IsTapeAt octets head.order 17 tape stop
    → ((value : Tree) (rest : List ℕ) → Begins 17 value tape rest → IsRequestHeader value header)
    → asked.id ≡ header.id → asked.flags ≡ header.flags → asked.operation ≡ header.operation.now
    → asked.order ≡ head.order
    → ((target : Tree) → TellsTarget target header.target → IsKeyOf target asked.key)
    → HasBody octets stop asked.body_at asked.body → IsRequest octets asked
request_said octets head tape stop header asked is at told id flags operation order key body =
    let h = told at.value _ at.begins in
    let value = h.is
    ∙ ap (λ n. request_tree n header.flags h.reserved h.target header.operation.now h.contexts) (sym id)
    ∙ ap (λ n. request_tree asked.id n h.reserved h.target header.operation.now h.contexts) (sym flags)
    ∙ ap (λ l. request_tree asked.id asked.flags h.reserved h.target l h.contexts) (sym operation) in
    record {
      head = head;
      is = is;
      order_is = order;
      reserved = h.reserved;
      target = h.target;
      contexts = h.contexts;
      stop = stop;
      header = subst (λ (v : Tree). HasHeader octets head.order 17 v stop) value at.header;
      key_is = key h.target h.tells;
      body = body;
    }

pub locate_said : (octets : List ℕ) (head : Head) (tape : List ℕ) (stop : ℕ) (header : LocateHeader) (sought : Sought)
    → IsWhole kinds.LocateRequest octets head → IsTapeAt octets head.order 20 tape stop
    → ((value : Tree) (rest : List ℕ) → Begins 20 value tape rest → IsLocateHeader value header)
    → sought.id ≡ header.id → sought.order ≡ head.order
    → ((target : Tree) → TellsTarget target header.target → IsKeyOf target sought.key) → IsLocate octets sought
locate_said octets head tape stop header sought is at told id order key =
    let h = told at.value _ at.begins in
    record {
      head = head;
      is = is;
      order_is = order;
      target = h.target;
      stop = stop;
      header = subst (λ (v : Tree). HasHeader octets head.order 20 v stop)
          (h.is ∙ ap (λ n. locate_tree n h.target) (sym id)) at.header;
      key_is = key h.target h.tells;
    }

-- the same of a tape that was lent
pub lent : (octets : List ℕ) (order : Order) (node : ℕ) (tape lent_tape : List ℕ) (stop : ℕ) → lent_tape ≡ tape
    → IsTapeAt octets order node tape stop → IsTapeAt octets order node lent_tape stop
lent octets order node tape lent_tape stop e at = subst (λ (l : List ℕ). IsTapeAt octets order node l stop) (sym e) at

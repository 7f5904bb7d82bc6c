-- Octets are at most one message.
use Rattle.std.proofs.Common.{◌≡◌, ℕ, ◌+◌, List, length, drop, Option, Ok, refl, sym, ap, ◌∙◌, subst, arith}
use Rattle.type_graph.specs.declared.width.Order.{Order}
use Rattle.type_graph.specs.Words.{reading}
use Rattle.type_graph.specs.Value.{Tree, node_at}
use Rattle.giop_types.proofs.GraphFacts.{giop_is_graph}
use Rattle.type_graph.proofs.OneTape.{graph_fits_words}
use Rattle.type_graph.proofs.OneReading.{one_reading}
use Rattle.giop_messages.specs.declared.head.MessageKind.{MessageKind}
use Rattle.giop_messages.specs.declared.head.MessageKind.TheVariants as kinds
use Rattle.giop_messages.specs.declared.head.Head.{Head}
use Rattle.giop_types.specs.GiopNodes.{giop_nodes}
use Rattle.reference_texts.specs.Profiles.{HasKey}
use Rattle.giop_messages.specs.Headers.{IsKeyOf, request_tree, reply_tree, cancel_tree, locate_tree, number_of}
use Rattle.giop_messages.specs.Messages.{Asked, Answered, Sought, Content, Asks, Answers, Cancels, Seeks, Closes, Fails, IsWhole, HasHeader, HasBody, body_after, IsRequest, IsReply, IsCancel, IsLocate, Says}
use Rattle.giop_messages.specs.declared.message.ReplyStatus.{ReplyStatus}
use Rattle.giop_messages.specs.declared.message.ReplyStatus.TheVariants.{NoException, UserException, SystemException, LocationForward, LocationForwardPerm, NeedsAddressingMode}
use Rattle.giop_messages.proofs.OneKey.{keys_once}

heads_same : (kind other : MessageKind) (octets : List ℕ) (a b : Head) → IsWhole kind octets a → IsWhole other octets b
    → a ≡ b
heads_same kind other octets a b one two =
    let same : Ok a ≡ Ok b = sym one.is.head_is ∙ two.is.head_is in
    cc

asked : ℕ → ℕ → Option (List ℕ) → List ℕ → Order → ℕ → List ℕ → Asked
asked id flags key operation order body_at body = record {
  id = id;
  flags = flags;
  key = key;
  operation = operation;
  order = order;
  body_at = body_at;
  body = body;
}

asked_is : (a : Asked) → asked a.id a.flags a.key a.operation a.order a.body_at a.body ≡ a
unfolding asked
asked_is a = refl

asked_same : (a b : Asked) → a.id ≡ b.id → a.flags ≡ b.flags → a.key ≡ b.key → a.operation ≡ b.operation
    → a.order ≡ b.order → a.body_at ≡ b.body_at → a.body ≡ b.body → a ≡ b
asked_same a b id flags key operation order at body =
    let parts : asked a.id a.flags a.key a.operation a.order a.body_at a.body
    ≡ asked b.id b.flags b.key b.operation b.order b.body_at b.body = cc in
    sym (asked_is a) ∙ parts ∙ asked_is b

answered : ℕ → ReplyStatus → Order → ℕ → List ℕ → Answered
answered id status order body_at body =
    record { id = id; status = status; order = order; body_at = body_at; body = body }

answered_is : (a : Answered) → answered a.id a.status a.order a.body_at a.body ≡ a
unfolding answered
answered_is a = refl

answered_same : (a b : Answered) → a.id ≡ b.id → a.status ≡ b.status → a.order ≡ b.order → a.body_at ≡ b.body_at
    → a.body ≡ b.body → a ≡ b
answered_same a b id status order at body =
    let parts : answered a.id a.status a.order a.body_at a.body ≡ answered b.id b.status b.order b.body_at b.body =
    cc in
    sym (answered_is a) ∙ parts ∙ answered_is b

sought : ℕ → Option (List ℕ) → Order → Sought
sought id key order = record { id = id; key = key; order = order }

sought_is : (a : Sought) → sought a.id a.key a.order ≡ a
unfolding sought
sought_is a = refl

sought_same : (a b : Sought) → a.id ≡ b.id → a.key ≡ b.key → a.order ≡ b.order → a ≡ b
sought_same a b id key order =
    let parts : sought a.id a.key a.order ≡ sought b.id b.key b.order = cc in
    sym (sought_is a) ∙ parts ∙ sought_is b

statuses_same : (a b : ReplyStatus) → number_of a ≡ number_of b → a ≡ b
statuses_same NoException NoException e = refl
statuses_same UserException UserException e = refl
statuses_same SystemException SystemException e = refl
statuses_same LocationForward LocationForward e = refl
statuses_same LocationForwardPerm LocationForwardPerm e = refl
statuses_same NeedsAddressingMode NeedsAddressingMode e = refl
statuses_same a b e = absurd (omega (arith, e))

kind_of : Content → MessageKind
kind_of (Asks asked) = kinds.Request
kind_of (Answers answered) = kinds.Reply
kind_of (Cancels id) = kinds.CancelRequest
kind_of (Seeks sought) = kinds.LocateRequest
kind_of Closes = kinds.CloseConnection
kind_of Fails = kinds.MessageError

-- the head of what octets say
record Headed (octets : List ℕ) (content : Content) : Type 0 where
  head : Head
  is : IsWhole (kind_of content) octets head

headed : (octets : List ℕ) (content : Content) → Says octets content → Headed octets content
unfolding kind_of
headed octets (Asks asked) s = record { head = s.head; is = s.is }
headed octets (Answers answered) s = record { head = s.head; is = s.is }
headed octets (Cancels id) s = record { head = s.head; is = s.is }
headed octets (Seeks sought) s = record { head = s.head; is = s.is }
headed octets Closes s = record { head = s.head; is = s.is }
headed octets Fails s = record { head = s.head; is = s.is }

kinds_same : (octets : List ℕ) (a b : Content) → Says octets a → Says octets b → kind_of a ≡ kind_of b
kinds_same octets a b s t =
    let one = headed octets a s in
    let two = headed octets b t in
    let same = heads_same (kind_of a) (kind_of b) octets one.head two.head one.is two.is in
    sym one.is.kind_is ∙ ap (λ (h : Head). h.kind) same ∙ two.is.kind_is

body_same : (octets : List ℕ) (p q at1 at2 : ℕ) (body1 body2 : List ℕ) → p ≡ q → HasBody octets p at1 body1
    → HasBody octets q at2 body2 → (at1 ≡ at2) × (body1 ≡ body2)
body_same octets p q at1 at2 body1 body2 e a b =
    let at : at1 ≡ at2 = a.place ∙ ap body_after e ∙ sym b.place in
    (at, a.body_is ∙ ap (λ (n : ℕ). drop n octets) at ∙ sym b.body_is)

module _ (key_once : (profile : ℕ × List ℕ) (a b : List ℕ) → HasKey profile a → HasKey profile b → a ≡ b) where
  -- the values at the front of what stands behind the head
  header_once : (octets : List ℕ) (order other : Order) (node : ℕ) (v u : Tree) (p q : ℕ) → order ≡ other
      → HasHeader octets order node v p → HasHeader octets other node u q → (v ≡ u) × (p ≡ q)
  header_once octets order other node v u p q e a b =
      let words = graph_fits_words giop_nodes giop_is_graph in
      let c = subst (λ (o : Order). HasHeader octets o node u q) (sym e) b in
      let one = one_reading giop_nodes words (reading order) (node_at giop_nodes node) v u 64 64 12
      a.header c.header a.rest c.rest (words node) a.holds.fits c.holds.fits a.holds.encodes c.holds.encodes
      (sym a.behind ∙ c.behind) in
      (one.0, a.stops ∙ ap (λ (h : List ℕ). 12 + length h) one.1 ∙ sym c.stops)

  request_once : (octets : List ℕ) (a b : Asked) → IsRequest octets a → IsRequest octets b → a ≡ b
  request_once octets a b s t =
      let heads = heads_same kinds.Request kinds.Request octets s.head t.head s.is t.is in
      let order = ap (λ (h : Head). h.order) heads in
      let v = request_tree a.id a.flags s.reserved s.target a.operation s.contexts in
      let u = request_tree b.id b.flags t.reserved t.target b.operation t.contexts in
      let one = header_once octets s.head.order t.head.order 17 v u s.stop t.stop order s.header t.header in
      let same : v ≡ u = one.0 in
      let id : a.id ≡ b.id = cc in
      let flags : a.flags ≡ b.flags = cc in
      let target : s.target ≡ t.target = cc in
      let operation : a.operation ≡ b.operation = cc in
      let key = keys_once key_once s.target a.key b.key s.key_is
      (subst (λ (v : Tree). IsKeyOf v b.key) (sym target) t.key_is) in
      let body = body_same octets s.stop t.stop a.body_at b.body_at a.body b.body one.1 s.body t.body in
      asked_same a b id flags key operation (s.order_is ∙ order ∙ sym t.order_is) body.0 body.1

  reply_once : (octets : List ℕ) (a b : Answered) → IsReply octets a → IsReply octets b → a ≡ b
  reply_once octets a b s t =
      let heads = heads_same kinds.Reply kinds.Reply octets s.head t.head s.is t.is in
      let order = ap (λ (h : Head). h.order) heads in
      let v = reply_tree a.id (number_of a.status) s.contexts in
      let u = reply_tree b.id (number_of b.status) t.contexts in
      let one = header_once octets s.head.order t.head.order 19 v u s.stop t.stop order s.header t.header in
      let same : v ≡ u = one.0 in
      let id : a.id ≡ b.id = cc in
      let status : number_of a.status ≡ number_of b.status = cc in
      let body = body_same octets s.stop t.stop a.body_at b.body_at a.body b.body one.1 s.body t.body in
      answered_same a b id (statuses_same a.status b.status status) (s.order_is ∙ order ∙ sym t.order_is) body.0 body.1

  cancel_once : (octets : List ℕ) (a b : ℕ) → IsCancel octets a → IsCancel octets b → a ≡ b
  cancel_once octets a b s t =
      let heads = heads_same kinds.CancelRequest kinds.CancelRequest octets s.head t.head s.is t.is in
      let order = ap (λ (h : Head). h.order) heads in
      let one = header_once octets s.head.order t.head.order 22 (cancel_tree a) (cancel_tree b) s.stop t.stop order
      s.header t.header in
      let same : cancel_tree a ≡ cancel_tree b = one.0 in
      cc

  locate_once : (octets : List ℕ) (a b : Sought) → IsLocate octets a → IsLocate octets b → a ≡ b
  locate_once octets a b s t =
      let heads = heads_same kinds.LocateRequest kinds.LocateRequest octets s.head t.head s.is t.is in
      let order = ap (λ (h : Head). h.order) heads in
      let v = locate_tree a.id s.target in
      let u = locate_tree b.id t.target in
      let one = header_once octets s.head.order t.head.order 20 v u s.stop t.stop order s.header t.header in
      let same : v ≡ u = one.0 in
      let id : a.id ≡ b.id = cc in
      let target : s.target ≡ t.target = cc in
      let key = keys_once key_once s.target a.key b.key s.key_is
      (subst (λ (v : Tree). IsKeyOf v b.key) (sym target) t.key_is) in
      sought_same a b id key (s.order_is ∙ order ∙ sym t.order_is)

  said_once : (octets : List ℕ) (a b : Content) → kind_of a ≡ kind_of b → Says octets a → Says octets b → a ≡ b
  unfolding kind_of
  said_once octets (Asks a) (Asks b) e s t = ap Asks (request_once octets a b s t)
  said_once octets (Answers a) (Answers b) e s t = ap Answers (reply_once octets a b s t)
  said_once octets (Cancels a) (Cancels b) e s t = ap Cancels (cancel_once octets a b s t)
  said_once octets (Seeks a) (Seeks b) e s t = ap Seeks (locate_once octets a b s t)
  said_once octets Closes Closes e s t = refl
  said_once octets Fails Fails e s t = refl
  said_once octets a b e s t = absurd (cc)

  pub says_once : (octets : List ℕ) (a b : Content) → Says octets a → Says octets b → a ≡ b
  says_once octets a b s t = said_once octets a b (kinds_same octets a b s t) s t

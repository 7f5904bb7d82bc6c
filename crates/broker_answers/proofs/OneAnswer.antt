-- Messages have one answer.
use Rattle.std.proofs.Common.{◌≡◌, ◌⊎◌, inl, inr, ℕ, Bool, true, false, List, [], ◌∷◌, ◌++◌, Option, Some, None, is_some, slice_get, refl, sym, ap, ap₂, subst, ◌∙◌}
use Rattle.type_graph.specs.GraphRules.{IsGraph}
use Rattle.type_model.specs.declared.signatures.Operation.{Operation}
use Rattle.type_model.specs.declared.signatures.Exception.{Exception}
use Rattle.type_model.specs.ModelRules.{Parts}
use Rattle.giop_types.specs.TapeParts.{IsCounted}
use Rattle.giop_types.proofs.GraphFacts.{giop_is_graph}
use Rattle.reference_texts.proofs.ProfileKeys.{profile_key_once}
use Rattle.giop_messages.specs.Headers.{here_tree, here_number, reply_tree, number_of}
use Rattle.giop_messages.specs.Messages.{Asked, Asks, Answers, Cancels, Seeks, Closes, Fails, Sought}
use Rattle.giop_messages.specs.Written.{Given}
use Rattle.giop_messages.proofs.OneMessage.{says_once}
use Rattle.type_graph.specs.Value.{NoTree}
use Rattle.broker_answers.specs.Streams.{Raw}
use Rattle.broker_answers.specs.declared.exception.BrokerException.{BrokerException}
use Rattle.broker_answers.specs.declared.exception.BrokerException.TheVariants as raised
use Rattle.broker_answers.specs.Servants.{Acting, Call, Said, Done, Raised, NoImplement}
use Rattle.broker_answers.specs.Objects.{Served, object_with}
use Rattle.broker_answers.specs.Findings.{Finding, Refuses, Tells, Calls}
use Rattle.broker_answers.specs.Replies.{Reply, acceptance, exception_reply, truth_reply, success, throw, IsSent, IsUnsendable, IsThrown, IsUnthrown, Replies, Succeeds, FailsToSucceed, Throws, FailsToThrow, ThrowsUnknown, IsntImplemented, SyncScope, WithTarget, WithServer, NoResponse, sync_scope, IsAnswer, IsWhole, AnswersRequest}
use Rattle.broker_answers.specs.Serving.{Item, IsItem, AnswersItem, IsLocated, MovesItem, ServesRaw, Serves, closes, state_after}
use Rattle.broker_answers.specs.OneAnswer.{IsSame}
use Rattle.broker_answers.proofs.Sent.{written_once}
use Rattle.broker_answers.proofs.OneFinding.{finds_once}

one_some : {A : Type 0} (x : Option A) (a b : A) → x ≡ Some a → x ≡ Some b → a ≡ b
one_some x a b e f = let same : Some a ≡ Some b = sym e ∙ f in cc

not_both : {A : Type 0} (x : Option A) (a : A) → x ≡ None → x ≡ Some a → ⊥
not_both x a e f = let same : None ≡ Some a = sym e ∙ f in absurd (cc)

same_given : (a b : Given) → Some a ≡ Some b → a ≡ b
same_given a b e = cc

not_given : (a : Given) → None ≡ Some a → ⊥
not_given a e = absurd (cc)

-- ---- what is sent

sent_once : (asked : Asked) (reply : Reply) (x y : List ℕ)
    → ((given : Given) → reply.body ≡ Some given → IsGraph given.graph)
    → IsSent asked reply x → IsSent asked reply y → x ≡ y
sent_once asked reply x y rules a b =
    written_once asked.order 1 19 (reply_tree asked.id (number_of reply.status) NoTree) reply.body x y rules a.written
    b.written

exception_once : (asked : Asked) (e : BrokerException) (x y : List ℕ) → IsSent asked (exception_reply e) x
    → IsSent asked (exception_reply e) y → x ≡ y
exception_once asked e x y a b =
    sent_once asked (exception_reply e) x y
    (λ given same. subst (λ (g : Given). IsGraph g.graph) (same_given _ given same) giop_is_graph) a b

truth_once : (asked : Asked) (truth : Bool) (x y : List ℕ) → IsSent asked (truth_reply truth) x
    → IsSent asked (truth_reply truth) y → x ≡ y
truth_once asked truth x y a b =
    sent_once asked (truth_reply truth) x y
    (λ given same. subst (λ (g : Given). IsGraph g.graph) (same_given _ given same) giop_is_graph) a b

acceptance_once : (asked : Asked) (x y : List ℕ) → IsSent asked acceptance x → IsSent asked acceptance y → x ≡ y
acceptance_once asked x y a b = sent_once asked acceptance x y (λ given same. absurd (not_given given same)) a b

-- ---- what is replied to what a servant says

done_body : (model : Parts) → IsGraph model.graph → (operation : Operation) (tape : List ℕ) (given : Given)
    → (success model operation tape).body ≡ Some given → IsGraph given.graph
done_body model rules operation tape given e = subst (λ (g : Given). IsGraph g.graph) (same_given _ given e) rules

thrown_body : (model : Parts) → IsGraph model.graph → (exception : Exception) (tape : List ℕ) (given : Given)
    → (throw model exception tape).body ≡ Some given → IsGraph given.graph
thrown_body model rules exception tape given e = subst (λ (g : Given). IsGraph g.graph) (same_given _ given e) rules

-- an exception of the list, or none at the place
record Thrown (model : Parts) (asked : Asked) (operation : Operation) (place : ℕ) (tape octets : List ℕ) : Type 0 where
  exception : Exception
  is : IsThrown model operation place exception
  sent : (IsCounted exception.id × IsSent asked (throw model exception tape) octets)
      ⊎ (IsUnthrown model asked exception tape × IsSent asked (exception_reply raised.Internal) octets)

record Unlisted (asked : Asked) (operation : Operation) (place : ℕ) (octets : List ℕ) : Type 0 where
  none : slice_get operation.exceptions place ≡ None
  sent : IsSent asked (exception_reply raised.Unknown) octets

-- by what the servant says
data By (model : Parts) (asked : Asked) (operation : Operation) (said : Said) (octets : List ℕ) : Type 0 where
  WhenDone : (tape : List ℕ) → said ≡ Done tape
      → IsSent asked (success model operation tape) octets
      ⊎ (IsUnsendable asked (success model operation tape) × IsSent asked (exception_reply raised.Internal) octets)
      → By model asked operation said octets
  WhenRaised : (place : ℕ) (tape : List ℕ) → said ≡ Raised place tape
      → Thrown model asked operation place tape octets ⊎ Unlisted asked operation place octets
      → By model asked operation said octets
  WhenNot : said ≡ NoImplement → IsSent asked (exception_reply raised.NoImplement) octets
      → By model asked operation said octets

by_said : (model : Parts) (asked : Asked) (operation : Operation) (said : Said) (octets : List ℕ)
    → Replies model asked operation said octets → By model asked operation said octets
by_said model asked operation said octets (Succeeds tape e sent) = WhenDone tape e (inl sent)
by_said model asked operation said octets (FailsToSucceed tape e none sent) = WhenDone tape e (inr (none, sent))
by_said model asked operation said octets (Throws place tape exception e is counted sent) =
    WhenRaised place tape e (inl (record { exception = exception; is = is; sent = inl (counted, sent) }))
by_said model asked operation said octets (FailsToThrow place tape exception e is none sent) =
    WhenRaised place tape e (inl (record { exception = exception; is = is; sent = inr (none, sent) }))
by_said model asked operation said octets (ThrowsUnknown place tape e none sent) =
    WhenRaised place tape e (inr (record { none = none; sent = sent }))
by_said model asked operation said octets (IsntImplemented e sent) = WhenNot e sent

done_once : (model : Parts) → IsGraph model.graph → (asked : Asked) (operation : Operation) (tape x y : List ℕ)
    → IsSent asked (success model operation tape) x
    ⊎ (IsUnsendable asked (success model operation tape) × IsSent asked (exception_reply raised.Internal) x)
    → IsSent asked (success model operation tape) y
    ⊎ (IsUnsendable asked (success model operation tape) × IsSent asked (exception_reply raised.Internal) y) → x ≡ y
done_once model rules asked operation tape x y (inl a) (inl b) =
    sent_once asked (success model operation tape) x y (done_body model rules operation tape) a b
done_once model rules asked operation tape x y (inl a) (inr b) = absurd (b.0 x a)
done_once model rules asked operation tape x y (inr a) (inl b) = absurd (a.0 y b)
done_once model rules asked operation tape x y (inr a) (inr b) = exception_once asked raised.Internal x y a.1 b.1

thrown_sent_once : (model : Parts) → IsGraph model.graph → (asked : Asked) (exception : Exception) (tape x y : List ℕ)
    → (IsCounted exception.id × IsSent asked (throw model exception tape) x)
    ⊎ (IsUnthrown model asked exception tape × IsSent asked (exception_reply raised.Internal) x)
    → (IsCounted exception.id × IsSent asked (throw model exception tape) y)
    ⊎ (IsUnthrown model asked exception tape × IsSent asked (exception_reply raised.Internal) y) → x ≡ y
thrown_sent_once model rules asked exception tape x y (inl a) (inl b) =
    sent_once asked (throw model exception tape) x y (thrown_body model rules exception tape) a.1 b.1
thrown_sent_once model rules asked exception tape x y (inl a) (inr b) = absurd (b.0 a.0 x a.1)
thrown_sent_once model rules asked exception tape x y (inr a) (inl b) = absurd (a.0 b.0 y b.1)
thrown_sent_once model rules asked exception tape x y (inr a) (inr b) = exception_once asked raised.Internal x y a.1 b.1

thrown_once : (model : Parts) → IsGraph model.graph → (asked : Asked) (operation : Operation) (place : ℕ)
    (tape x y : List ℕ) → Thrown model asked operation place tape x → Thrown model asked operation place tape y → x ≡ y
thrown_once model rules asked operation place tape x y a b =
    let number : a.is.number ≡ b.is.number = one_some _ a.is.number b.is.number a.is.listed b.is.listed in
    let there : slice_get model.exceptions b.is.number ≡ Some a.exception =
    subst (λ (n : ℕ). slice_get model.exceptions n ≡ Some a.exception) number a.is.there in
    let exception : a.exception ≡ b.exception = one_some _ a.exception b.exception there b.is.there in
    thrown_sent_once model rules asked b.exception tape x y
    (subst (λ (e : Exception). (IsCounted e.id × IsSent asked (throw model e tape) x)
    ⊎ (IsUnthrown model asked e tape × IsSent asked (exception_reply raised.Internal) x)) exception a.sent) b.sent

raised_once : (model : Parts) → IsGraph model.graph → (asked : Asked) (operation : Operation) (place : ℕ)
    (tape x y : List ℕ) → Thrown model asked operation place tape x ⊎ Unlisted asked operation place x
    → Thrown model asked operation place tape y ⊎ Unlisted asked operation place y → x ≡ y
raised_once model rules asked operation place tape x y (inl a) (inl b) =
    thrown_once model rules asked operation place tape x y a b
raised_once model rules asked operation place tape x y (inl a) (inr b) =
    absurd (not_both _ a.is.number b.none a.is.listed)
raised_once model rules asked operation place tape x y (inr a) (inl b) =
    absurd (not_both _ b.is.number a.none b.is.listed)
raised_once model rules asked operation place tape x y (inr a) (inr b) =
    exception_once asked raised.Unknown x y a.sent b.sent

same_tape : (a b : List ℕ) → Done a ≡ Done b → a ≡ b
same_tape a b e = cc

same_raised : (n m : ℕ) (a b : List ℕ) → Raised n a ≡ Raised m b → (n ≡ m) × (a ≡ b)
same_raised n m a b e = (cc, cc)

by_once : (model : Parts) → IsGraph model.graph → (asked : Asked) (operation : Operation) (said : Said) (x y : List ℕ)
    → By model asked operation said x → By model asked operation said y → x ≡ y
by_once model rules asked operation said x y (WhenDone t e a) (WhenDone u f b) =
    done_once model rules asked operation u x y
    (subst (λ (t : List ℕ). IsSent asked (success model operation t) x
    ⊎ (IsUnsendable asked (success model operation t) × IsSent asked (exception_reply raised.Internal) x))
    (same_tape t u (sym e ∙ f)) a) b
by_once model rules asked operation said x y (WhenDone t e a) (WhenRaised n u f b) =
    let same : Done t ≡ Raised n u = sym e ∙ f in absurd (cc)
by_once model rules asked operation said x y (WhenDone t e a) (WhenNot f b) =
    let same : Done t ≡ NoImplement = sym e ∙ f in absurd (cc)
by_once model rules asked operation said x y (WhenRaised n t e a) (WhenDone u f b) =
    let same : Raised n t ≡ Done u = sym e ∙ f in absurd (cc)
by_once model rules asked operation said x y (WhenRaised n t e a) (WhenRaised m u f b) =
    let same = same_raised n m t u (sym e ∙ f) in
    raised_once model rules asked operation m u x y
    (subst (λ (t : List ℕ). Thrown model asked operation m t x ⊎ Unlisted asked operation m x) same.1
    (subst (λ (k : ℕ). Thrown model asked operation k t x ⊎ Unlisted asked operation k x) same.0 a)) b
by_once model rules asked operation said x y (WhenRaised n t e a) (WhenNot f b) =
    let same : Raised n t ≡ NoImplement = sym e ∙ f in absurd (cc)
by_once model rules asked operation said x y (WhenNot e a) (WhenDone u f b) =
    let same : NoImplement ≡ Done u = sym e ∙ f in absurd (cc)
by_once model rules asked operation said x y (WhenNot e a) (WhenRaised n u f b) =
    let same : NoImplement ≡ Raised n u = sym e ∙ f in absurd (cc)
by_once model rules asked operation said x y (WhenNot e a) (WhenNot f b) =
    exception_once asked raised.NoImplement x y a b

-- ---- requests

whole_once : (served : Served) → IsGraph served.model.graph → (asked : Asked) (finding : Finding) (says : Call → Said)
    (x y : List ℕ) → IsWhole served asked finding says x → IsWhole served asked finding says y → x ≡ y
whole_once served rules asked (Refuses e) says x y a b = exception_once asked e x y a b
whole_once served rules asked (Tells truth) says x y a b = truth_once asked truth x y a b
whole_once served rules asked (Calls call) says x y a b =
    let same : a.0 ≡ b.0 = one_some _ a.0 b.0 a.1 b.1 in
    by_once served.model rules asked b.0 (says call) x y
    (by_said served.model asked b.0 (says call) x
    (subst (λ (o : Operation). Replies served.model asked o (says call) x) same a.2))
    (by_said served.model asked b.0 (says call) y b.2)

answer_once : (served : Served) → IsGraph served.model.graph → (asked : Asked) (scope : SyncScope) (finding : Finding)
    (says : Call → Said) (x y : List ℕ) → IsAnswer scope served asked finding says x
    → IsAnswer scope served asked finding says y → x ≡ y
answer_once served rules asked WithTarget finding says x y a b = whole_once served rules asked finding says x y a b
answer_once served rules asked WithServer (Refuses e) says x y a b = exception_once asked e x y a b
answer_once served rules asked WithServer (Tells truth) says x y a b = acceptance_once asked x y a b
answer_once served rules asked WithServer (Calls call) says x y a b = acceptance_once asked x y a b
answer_once served rules asked NoResponse finding says x y a b = a ∙ sym b

request_once : (served : Served) → IsGraph served.model.graph → (asked : Asked) (says : Call → Said) (x y : List ℕ)
    → AnswersRequest served asked says x → AnswersRequest served asked says y → x ≡ y
request_once served rules asked says x y a b =
    let same = finds_once served rules asked a.finding b.finding a.finds b.finds in
    answer_once served rules asked (sync_scope asked.flags) b.finding says x y
    (subst (λ (f : Finding). IsAnswer (sync_scope asked.flags) served asked f says x) same a.answer) b.answer

-- ---- items

located_once : (served : Served) (sought : Sought) (x y : List ℕ) → IsLocated served sought x
    → IsLocated served sought y
    → x ≡ y
located_once served sought x y a b =
    written_once sought.order 4 21 (here_tree sought.id (here_number (is_some (object_with served.objects sought.key))))
    None
    x y (λ given e. absurd (not_given given e)) a.written b.written

item_answered_once : (served : Served) → IsGraph served.model.graph → (says : Call → Said) (item : Item) (x y : List ℕ)
    → AnswersItem served says item x → AnswersItem served says item y → x ≡ y
item_answered_once served rules says None x y a b = a ∙ sym b
item_answered_once served rules says (Some (Asks asked)) x y a b = request_once served rules asked says x y a b
item_answered_once served rules says (Some (Answers answered)) x y a b = a ∙ sym b
item_answered_once served rules says (Some (Cancels id)) x y a b = a ∙ sym b
item_answered_once served rules says (Some (Seeks sought)) x y a b = located_once served sought x y a b
item_answered_once served rules says (Some Closes) x y a b = a ∙ sym b
item_answered_once served rules says (Some Fails) x y a b = a ∙ sym b

item_moved_once : {S : Type 0} (acting : Acting S) (served : Served) → IsGraph served.model.graph → (item : Item)
    (before x y : S) → MovesItem acting served item before x → MovesItem acting served item before y → x ≡ y
item_moved_once acting served rules None before x y a b = a ∙ sym b
item_moved_once acting served rules (Some (Asks asked)) before x y a b =
    a.now ∙ ap (state_after acting before) (finds_once served rules asked a.finding b.finding a.finds b.finds)
    ∙ sym b.now
item_moved_once acting served rules (Some (Answers answered)) before x y a b = a ∙ sym b
item_moved_once acting served rules (Some (Cancels id)) before x y a b = a ∙ sym b
item_moved_once acting served rules (Some (Seeks sought)) before x y a b = a ∙ sym b
item_moved_once acting served rules (Some Closes) before x y a b = a ∙ sym b
item_moved_once acting served rules (Some Fails) before x y a b = a ∙ sym b

item_once : (raw : Raw) (a b : Item) → IsItem raw a → IsItem raw b → a ≡ b
item_once (Some message) (Some c) (Some d) x y = ap Some (says_once profile_key_once message c d x y)
item_once (Some message) (Some c) None x y = absurd (y c x)
item_once (Some message) None (Some d) x y = absurd (x d y)
item_once (Some message) None None x y = refl
item_once None (Some c) b x y = absurd x
item_once None None (Some d) x y = absurd y
item_once None None None x y = refl

-- ---- messages

raw_once : {S : Type 0} (acting : Acting S) (served : Served) → IsGraph served.model.graph → (raw : Raw) (before : S)
    (x y : List ℕ) (c d : Bool) (s t : S) → ServesRaw acting served raw before x c s
    → ServesRaw acting served raw before y d t → IsSame x y c d s t
raw_once {S} acting served rules raw before x y c d s t a b =
    let same = item_once raw a.item b.item a.moves.is b.moves.is in
    record {
      answer = item_answered_once served rules (acting.says before) b.item x y
          (subst (λ (i : Item). AnswersItem served (acting.says before) i x) same a.answers) b.answers;
      closing = a.closed_is ∙ ap closes same ∙ sym b.closed_is;
      state = item_moved_once acting served rules b.item before s t
          (subst (λ (i : Item). MovesItem acting served i before s) same a.moves.moves) b.moves.moves;
    }

true_false : {A : Type 0} → true ≡ false → A
true_false e = absurd (cc)

pub serves_once : {S : Type 0} (acting : Acting S) (served : Served) → IsGraph served.model.graph → (raws : List Raw)
    (before : S) (x y : List ℕ) (c d : Bool) (s t : S) → Serves acting served raws before x c s
    → Serves acting served raws before y d t → IsSame x y c d s t
serves_once acting served rules [] before x y c d s t (a0, a1, a2) (b0, b1, b2) =
    record { answer = a0 ∙ sym b0; closing = a1 ∙ sym b1; state = a2 ∙ sym b2 }
serves_once acting served rules (raw ∷ more) before x y c d s t (true, s1, f, a, (a0, a1, a2))
    (true, t1, g, b, (b0, b1, b2)) =
    let one = raw_once acting served rules raw before f g true true s1 t1 a b in
    record { answer = a0 ∙ one.answer ∙ sym b0; closing = a1 ∙ sym b1; state = a2 ∙ one.state ∙ sym b2 }
serves_once acting served rules (raw ∷ more) before x y c d s t (true, s1, f, a, done) (false, t1, g, b, further) =
    let one = raw_once acting served rules raw before f g true false s1 t1 a b in true_false one.closing
serves_once acting served rules (raw ∷ more) before x y c d s t (false, s1, f, a, further) (true, t1, g, b, done) =
    let one = raw_once acting served rules raw before f g false true s1 t1 a b in true_false (sym one.closing)
serves_once {S} acting served rules (raw ∷ more) before x y c d s t (false, s1, f, a, (o, a0, ar))
    (false, t1, g, b, (p, b0, br)) =
    let one = raw_once acting served rules raw before f g false false s1 t1 a b in
    let rest = serves_once acting served rules more t1 o p c d s t
    (subst (λ (u : S). Serves acting served more u o c s) one.state ar) br in
    record {
      answer = a0 ∙ ap₂ (λ (u v : List ℕ). u ++ v) one.answer rest.answer ∙ sym b0;
      closing = rest.closing;
      state = rest.state;
    }

-- A talk is one.
use Rattle.std.proofs.Common.{◌≡◌, ℕ, Bool, true, false, List, [], ◌∷◌, Option, Some, None, take, refl, sym, ap, ap₂, subst, ◌∙◌}
use Rattle.type_graph.specs.GraphRules.{IsGraph}
use Rattle.reference_texts.proofs.ProfileKeys.{profile_key_once}
use Rattle.giop_messages.specs.Messages.{Asks, Answers as Answering, Cancels, Seeks, Closes, Fails}
use Rattle.giop_messages.proofs.OneMessage.{says_once}
use Rattle.broker_answers.specs.Streams.{Raw}
use Rattle.broker_answers.specs.Servants.{Acting}
use Rattle.broker_answers.specs.Objects.{Served}
use Rattle.broker_answers.specs.Serving.{Item, IsItem, MovesItem, Moves, Serves, Unless, closes, state_after}
use Rattle.broker_answers.specs.Connections.{at, put}
use Rattle.broker_answers.specs.Talk.{Event, Begins, Brings, GivesUp, Ends, Keeping, World, world, Happens, Follows, Talk, histories, kept_or_shut}
use Rattle.broker_answers.proofs.OneAnswer.{serves_once}
use Rattle.broker_answers.proofs.OneFinding.{finds_once}
use Rattle.broker_loop.specs.Carried.{Log}
use Rattle.broker_loop.specs.OneTalk.{IsSameTalk, events}

one_kept : {A : Type 0} (x : Option A) (a b : A) → x ≡ Some a → x ≡ Some b → a ≡ b
one_kept x a b e f = let same : Some a ≡ Some b = sym e ∙ f in cc

item_once : (raw : Raw) (a b : Item) → IsItem raw a → IsItem raw b → a ≡ b
item_once (Some message) (Some c) (Some d) x y = ap Some (says_once profile_key_once message c d x y)
item_once (Some message) (Some c) None x y = absurd (y c x)
item_once (Some message) None (Some d) x y = absurd (x d y)
item_once (Some message) None None x y = refl
item_once None (Some c) b x y = absurd x
item_once None None (Some d) x y = absurd y
item_once None None None x y = refl

module _ {S : Type 0} (acting : Acting S) (served : Served) (rules : IsGraph served.model.graph) where
  moved_once : (item : Item) (before x y : S) → MovesItem acting served item before x
      → MovesItem acting served item before y → x ≡ y
  moved_once None before x y a b = a ∙ sym b
  moved_once (Some (Asks asked)) before x y a b =
      a.now ∙ ap (state_after acting before) (finds_once served rules asked a.finding b.finding a.finds b.finds)
      ∙ sym b.now
  moved_once (Some (Answering answered)) before x y a b = a ∙ sym b
  moved_once (Some (Cancels id)) before x y a b = a ∙ sym b
  moved_once (Some (Seeks sought)) before x y a b = a ∙ sym b
  moved_once (Some Closes) before x y a b = a ∙ sym b
  moved_once (Some Fails) before x y a b = a ∙ sym b

  onward : (ends : Bool) (M : S → S → Type 0) (s t x y : S) → s ≡ t → ((u v : S) → M t u → M t v → u ≡ v)
      → Unless ends (x ≡ s) (M s x) → Unless ends (y ≡ t) (M t y) → x ≡ y
  onward true M s t x y same once a b = a ∙ same ∙ sym b
  onward false M s t x y same once a b = once x y (subst (λ (u : S). M u x) same a) b

  moves_once : (raws : List Raw) (before x y : S) → Moves acting served raws before x
      → Moves acting served raws before y → x ≡ y
  moves_once [] before x y a b = a ∙ sym b
  moves_once (raw ∷ more) before x y (i, s, a, further) (j, t, b, onwards) =
      let items = item_once raw i j a.is b.is in
      let states = moved_once j before s t (subst (λ (k : Item). MovesItem acting served k before s) items a.moves)
      b.moves in
      onward (closes j) (λ u v. Moves acting served more u v) s t x y states (λ u v p q. moves_once more t u v p q)
      (subst (λ (k : Item). Unless (closes k) (x ≡ s) (Moves acting served more s x)) items further) onwards

  module _ {C : Type 0} (keeping : Keeping C) where
    brought_to : World S C → ℕ → List ℕ → S → Bool → C → World S C
    brought_to w c octets servant closing kept =
        world servant (put c (kept_or_shut keeping closing (keeping.heard kept octets).kept) w.there)

    happens_once : (w x y : World S C) (e : Event) (a b : List ℕ)
        → Happens keeping (Serves acting served) (Moves acting served) w e a x
        → Happens keeping (Serves acting served) (Moves acting served) w e b y → (a ≡ b) × (x ≡ y)
    unfolding brought_to
    happens_once w x y (Begins c) a b p q = (p.silent ∙ sym q.silent, p.now ∙ sym q.now)
    happens_once w x y (Ends c) a b p q = (p.silent ∙ sym q.silent, p.now ∙ sym q.now)
    happens_once w x y (Brings c octets) a b p q =
        let kept = one_kept (at c w.there) p.kept q.kept p.there q.there in
        let same = serves_once acting served rules (keeping.heard q.kept octets).raws w.servant a b p.closes q.closes
        p.servant q.servant
        (subst (λ (k : C). Serves acting served (keeping.heard k octets).raws w.servant a p.closes p.servant) kept
        p.served) q.served in (
          same.answer,
          p.now ∙ ap (λ (s : S). brought_to w c octets s p.closes p.kept) same.state
              ∙ ap (λ (d : Bool). brought_to w c octets q.servant d p.kept) same.closing
              ∙ ap (λ (k : C). brought_to w c octets q.servant q.closes k) kept ∙ sym q.now,
        )
    happens_once w x y (GivesUp c octets j) a b p q =
        let kept = one_kept (at c w.there) p.kept q.kept p.there q.there in
        let same = moves_once (take j (keeping.heard q.kept octets).raws) w.servant p.servant q.servant
        (subst (λ (k : C). Moves acting served (take j (keeping.heard k octets).raws) w.servant p.servant) kept p.moved)
        q.moved in
        (p.silent ∙ sym q.silent, p.now ∙ ap (λ (s : S). world s (put c keeping.shut w.there)) same ∙ sym q.now)

    follows_once : (said more : Log) (w x y : World S C) → events said ≡ events more
        → Follows keeping (Serves acting served) (Moves acting served) w said x
        → Follows keeping (Serves acting served) (Moves acting served) w more y → (said ≡ more) × (x ≡ y)
    follows_once [] [] w x y e a b = (refl, a ∙ sym b)
    follows_once [] (other ∷ more) w x y e a b = absurd (cc)
    follows_once (one ∷ said) [] w x y e a b = absurd (cc)
    follows_once (one ∷ said) (other ∷ more) w x y e (v, p, f) (u, q, g) =
        let head : one.0 ≡ other.0 = cc in
        let tail : events said ≡ events more = cc in
        let now = happens_once w v u other.0 one.1 other.1
        (subst (λ (k : Event). Happens keeping (Serves acting served) (Moves acting served) w k one.1 v) head p) q in
        let later = follows_once said more u x y tail
        (subst (λ (z : World S C). Follows keeping (Serves acting served) (Moves acting served) z said x) now.1 f) g in
        let both : one ≡ other = ap₂ (λ (k : Event) (o : List ℕ). (k, o)) head now.0 in
        (ap₂ (λ (o : Event × List ℕ) (os : Log). o ∷ os) both later.0, later.1)

  pub talks_once : (before one other : S) (said more : Log) → events said ≡ events more
      → Talk (Serves acting served) (Moves acting served) before said one
      → Talk (Serves acting served) (Moves acting served) before more other → IsSameTalk said more one other
  talks_once before one other said more same (there, a) (others, b) =
      let all = follows_once histories said more (world before []) (world one there) (world other others) same a b in
      record { answers = all.0; state = ap (λ w. w.servant) all.1 }

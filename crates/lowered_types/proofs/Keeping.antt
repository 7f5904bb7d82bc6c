-- What is kept while the types of a file are lowered: each name that is introduced has what its kind has, no other name
-- has anything, and the nodes are right.
use Rattle.std.proofs.Common.{◌≡◌, ◌∙◌, ◌⊎◌, inl, inr, ℕ, suc, ◌+◌, ◌≤◌, le_refl, true, false, List, ◌∷◌, length, Option, Some, None, sym, ap, subst, arith}
use Rattle.std.specs.Prelude.{slice_get}
use Rattle.idl_tree.specs.declared.names.Leaf.{Leaf}
use Rattle.type_graph.specs.BasicNodes.{basic_nodes}
use Rattle.type_graph.specs.declared.node.Node.{Node}
use Rattle.type_graph.specs.GraphRules.{all_members}
use Rattle.idl_tree.specs.declared.kinds.EntryKind.{EntryKind}
use Rattle.idl_tree.specs.declared.kinds.EntryKind.TheVariants as Kinds
use Rattle.name_table.specs.Entry.{Entry, named}
use Rattle.name_table.specs.Search.{word}
use Rattle.scoped_names.specs.Faults.{has_body}
use Rattle.scoped_names.specs.Introductions.{Introduction, Stands, Body, StandsFor}
use Rattle.scoped_names.specs.Tests.{is_of}
use Rattle.lowered_types.specs.declared.place.Place.{Place}
use Rattle.lowered_types.specs.declared.place.Place.TheVariants.{Typed, Raised, Called, Got, GotAndSet}
use Rattle.lowered_types.specs.Faults.{max_all_members, max_nodes}
use Rattle.lowered_types.specs.Sound.{IsIdFrame, IsPlaceAmong}
use Rattle.lowered_types.specs.Lowered.{Lowered, undefined}
use Rattle.lowered_types.proofs.Growing.{Grows, IsRight, frame_stays, grows_none, grows_on, id_stays, part_stays}
use Rattle.lowered_types.proofs.Settled.{IsBody, IsDone, Known}

-- a structure or a union
abbrev pub HasBody : List Entry → ℕ → Type 0
HasBody es e = is_of has_body (slice_get es e) ≡ true

abbrev pub HasType : Option (Option Place) → Type 0
HasType o = (n : ℕ) × (o ≡ Some (Some (Typed n)))

abbrev pub IsRaised : Option (Option Place) → Type 0
IsRaised o = (frame : ℕ) × (place : ℕ) × (o ≡ Some (Some (Raised frame place)))

-- what an entry of the kind has; an exception has nothing before its end
abbrev pub HasPlace : EntryKind → Type 0 → Option (Option Place) → Type 0
HasPlace Kinds.Module begun o = Unit {0}
HasPlace Kinds.Interface begun o = o ≡ Some (Some (Typed 13))
HasPlace Kinds.Struct begun o = HasType o
HasPlace Kinds.Union begun o = HasType o
HasPlace Kinds.Enum begun o = HasType o
HasPlace Kinds.Enumerator begun o = Unit {0}
HasPlace Kinds.Typedef begun o = HasType o
HasPlace Kinds.Const begun o = Unit {0}
HasPlace Kinds.Exception begun o = begun ⊎ IsRaised o
HasPlace Kinds.Operation begun o = Unit {0}
HasPlace Kinds.Attribute begun o = Unit {0}

abbrev pub IsUnplaced : EntryKind → Option (Option Place) → Type 0
IsUnplaced Kinds.Exception o = o ≡ Some None
IsUnplaced kind o = Unit {0}

-- no more types than the limit, each right, and no more members of all than are counted, within the limit; so many
-- types have sites as there are behind the basic ones, and each exception has a frame
pub record IsSound (w : Lowered) : Type 0 where
  pub limited : length w.nodes ≤ max_nodes
  pub nodes : (n : ℕ) (node : Node) → slice_get w.nodes n ≡ Some node → IsRight w.nodes node
  pub counted : all_members w.nodes ≤ w.members
  pub members : w.members ≤ max_all_members
  pub sites : length w.nodes ≡ length w.sites + 14
  pub exceptions : length w.exceptions ≤ length w.nodes

-- a node without definition is that of a structure or a union that has none yet
pub record IsLeft (es : List Entry) (g : List Introduction) (begun : ℕ → Type 0) (places : List (Option Place))
    (n : ℕ) : Type 0 where
  pub entry : ℕ
  pub body : HasBody es entry
  pub place : slice_get places entry ≡ Some (Some (Typed n))
  pub again : IsDone g (suc entry) → begun entry

-- the k-th exception, by its entry and its frame
pub record IsException (places : List (Option Place)) (graph : List Node) (k : ℕ) (x : ℕ × ℕ) : Type 0 where
  pub place : slice_get places x.0 ≡ Some (Some (Raised x.1 k))
  pub frame : IsIdFrame graph x.1

-- what is lowered where g is introduced, and the definitions of what is `begun` aren't at their ends
pub record Keeps (es : List Entry) (g : List Introduction) (begun : ℕ → Type 0) (w : Lowered) : Type 0 where
  pub long : length w.places ≡ length es
  pub known : (e : ℕ) (p : Place) → slice_get w.places e ≡ Some (Some p) → Known es g e
  pub has : (e : ℕ) (x : Entry) → Known es g e → slice_get es e ≡ Some x
      → HasPlace x.kind (begun e) (slice_get w.places e)
  pub begun_known : (e : ℕ) → begun e → Known es g e
  pub begun_done : (e : ℕ) → begun e → HasBody es e → IsDone g (suc e)
  pub done_known : (e : ℕ) → IsDone g (suc e) → Known es g e
  pub unplaced : (e : ℕ) (x : Entry) → begun e → slice_get es e ≡ Some x → IsUnplaced x.kind (slice_get w.places e)
  pub right : (e : ℕ) (p : Place) → slice_get w.places e ≡ Some (Some p) → IsPlaceAmong w.nodes (length w.exceptions) p
  pub exceptions : (k : ℕ) (x : ℕ × ℕ) → slice_get w.exceptions k ≡ Some x → IsException w.places w.nodes k x
  pub one : (e f n : ℕ) → HasBody es e → HasBody es f → slice_get w.places e ≡ Some (Some (Typed n))
      → slice_get w.places f ≡ Some (Some (Typed n)) → e ≡ f
  pub ahead : (e n : ℕ) → HasBody es e → slice_get w.places e ≡ Some (Some (Typed n)) → (IsDone g (suc e) → ⊥) ⊎ begun e
      → slice_get w.nodes n ≡ Some undefined
  pub left : (n : ℕ) → slice_get w.nodes n ≡ Some undefined → IsLeft es g begun w.places n
  pub basic : (n : ℕ) (node : Node) → slice_get basic_nodes n ≡ Some node → slice_get w.nodes n ≡ Some node
  pub sound : IsSound w

-- what is lowered behind other things
pub record Later (w v : Lowered) : Type 0 where
  pub nodes : Grows w.nodes v.nodes
  pub places : (e : ℕ) (p : Place) → slice_get w.places e ≡ Some (Some p) → slice_get v.places e ≡ Some (Some p)
  pub exceptions : length w.exceptions ≤ length v.exceptions

pub later_none : (w : Lowered) → Later w w
later_none w = record { nodes = grows_none w.nodes; places = λ e p is. is; exceptions = le_refl (length w.exceptions) }

pub later_on : (w v u : Lowered) → Later w v → Later v u → Later w u
later_on w v u f g = record {
  nodes = grows_on w.nodes v.nodes u.nodes f.nodes g.nodes;
  places = λ e p is. g.places e p (f.places e p is);
  exceptions = omega (arith, f.exceptions, g.exceptions);
}

pub place_stays : (graph later : List Node) (m n : ℕ) → Grows graph later → m ≤ n → (p : Place) → IsPlaceAmong graph m p
    → IsPlaceAmong later n p
place_stays graph later m n grows le (Typed k) h = part_stays graph later grows k h
place_stays graph later m n grows le (Raised frame place) h =
    let below = h.1 in
    (id_stays graph later grows frame h.0, omega (arith, below, le))
place_stays graph later m n grows le (Called request) h =
    (frame_stays graph later grows request h.0, frame_stays graph later grows (request + 1) h.1)
place_stays graph later m n grows le (Got request) h =
    (frame_stays graph later grows request h.0, frame_stays graph later grows (request + 1) h.1)
place_stays graph later m n grows le (GotAndSet request) h = (
  frame_stays graph later grows request h.0,
  frame_stays graph later grows (request + 1) h.1,
  frame_stays graph later grows (request + 2) h.2,
  frame_stays graph later grows (request + 3) h.3,
)

-- ---- kinds

pub body_of : (es : List Entry) (e : ℕ) (x : Entry) → slice_get es e ≡ Some x → has_body x.kind ≡ true → HasBody es e
body_of es e x is has = ap (is_of has_body) is ∙ has

pub no_body_of : (es : List Entry) (e : ℕ) (x : Entry) → slice_get es e ≡ Some x → has_body x.kind ≡ false
    → HasBody es e → ⊥
no_body_of es e x is none has = let told : is_of has_body (slice_get es e) ≡ false = ap (is_of has_body) is ∙ none in cc

-- a structure or a union has a type
pub body_placed : (kind : EntryKind) (begun : Type 0) (o : Option (Option Place)) → has_body kind ≡ true
    → HasPlace kind begun o → HasType o
body_placed Kinds.Struct begun o is h = h
body_placed Kinds.Union begun o is h = h
body_placed kind begun o is h = absurd cc

pub body_begun : (kind : EntryKind) (begun more : Type 0) (o : Option (Option Place)) → (begun → more)
    → HasPlace kind begun o → HasPlace kind more o
body_begun Kinds.Module begun more o f h = h
body_begun Kinds.Interface begun more o f h = h
body_begun Kinds.Struct begun more o f h = h
body_begun Kinds.Union begun more o f h = h
body_begun Kinds.Enum begun more o f h = h
body_begun Kinds.Enumerator begun more o f h = h
body_begun Kinds.Typedef begun more o f h = h
body_begun Kinds.Const begun more o f h = h
body_begun Kinds.Exception begun more o f (inl is) = inl (f is)
body_begun Kinds.Exception begun more o f (inr raised) = inr raised
body_begun Kinds.Operation begun more o f h = h
body_begun Kinds.Attribute begun more o f h = h

-- ---- more that is introduced, where nothing more is lowered

-- it is known already, or its kind needs no place
abbrev pub NeedsNothing : List Entry → (ℕ → Type 0) → Lowered → Introduction → Type 0
NeedsNothing es begun w x = (e : ℕ) (y : Entry) → StandsFor es e x → slice_get es e ≡ Some y
    → HasPlace y.kind (begun e) (slice_get w.places e)

pub more_known : (es : List Entry) (g : List Introduction) (begun : ℕ → Type 0) (w : Lowered) (x : Introduction)
    → Keeps es g begun w → NeedsNothing es begun w x
    → ((e : ℕ) → IsBody (suc e) x → Known es g e × (HasBody es e → begun e)) → Keeps es (x ∷ g) begun w
more_known es g begun w x i needs bodies = record {
  long = i.long;
  known = λ e p is. inr (i.known e p is);
  has = λ e y knows at. by e y at knows;
  begun_known = λ e b. inr (i.begun_known e b);
  begun_done = λ e b body. inr (i.begun_done e b body);
  done_known = λ e done. now_done e done;
  unplaced = i.unplaced;
  right = i.right;
  exceptions = i.exceptions;
  one = i.one;
  ahead = λ e n body place yet. i.ahead e n body place (earlier e yet);
  left = λ n is. still n (i.left n is);
  basic = i.basic;
  sound = i.sound;
}
  where
    by : (e : ℕ) (y : Entry) → slice_get es e ≡ Some y → StandsFor es e x ⊎ Known es g e
        → HasPlace y.kind (begun e) (slice_get w.places e)
    by e y at (inl stands) = needs e y stands at
    by e y at (inr knows) = i.has e y knows at

    now_done : (e : ℕ) → IsBody (suc e) x ⊎ IsDone g (suc e) → StandsFor es e x ⊎ Known es g e
    now_done e (inl is) = inr (bodies e is).0
    now_done e (inr done) = inr (i.done_known e done)

    earlier : (e : ℕ) → (IsDone (x ∷ g) (suc e) → ⊥) ⊎ begun e → (IsDone g (suc e) → ⊥) ⊎ begun e
    earlier e (inl never) = inl (λ done. never (inr done))
    earlier e (inr b) = inr b

    again : (e : ℕ) → HasBody es e → (IsDone g (suc e) → begun e) → IsBody (suc e) x ⊎ IsDone g (suc e) → begun e
    again e body old (inl is) = (bodies e is).1 body
    again e body old (inr done) = old done

    still : (n : ℕ) → IsLeft es g begun w.places n → IsLeft es (x ∷ g) begun w.places n
    still n l = record { entry = l.entry; body = l.body; place = l.place; again = again l.entry l.body l.again }

-- ---- definitions begin

-- the structure or the union is defined from here on
abbrev pub with_begun : ℕ → (ℕ → Type 0) → ℕ → Type 0
with_begun e begun f = (f ≡ e) ⊎ begun f

pub begins : (es : List Entry) (g : List Introduction) (begun : ℕ → Type 0) (w : Lowered) (e : ℕ) → Keeps es g begun w
    → Known es g e → HasBody es e
    → (IsDone g (suc e) → ⊥) → Keeps es (Body (suc e) ∷ g) (with_begun e begun) w
begins es g begun w e i knows body new = record {
  long = i.long;
  known = λ f p is. inr (i.known f p is);
  has = λ f y k at. by f y at k;
  begun_known = λ f b. inr (first f b);
  begun_done = λ f b has. defined f has b;
  done_known = λ f done. now_done f done;
  unplaced = λ f y b at. bare f y at b;
  right = i.right;
  exceptions = i.exceptions;
  one = i.one;
  ahead = λ f n has place yet. i.ahead f n has place (earlier f yet);
  left = λ n is. still n (i.left n is);
  basic = i.basic;
  sound = i.sound;
}
  where
    by : (f : ℕ) (y : Entry) → slice_get es f ≡ Some y → StandsFor es f (Body (suc e)) ⊎ Known es g f
        → HasPlace y.kind (with_begun e begun f) (slice_get w.places f)
    by f y at (inl stands) = absurd stands
    by f y at (inr k) = body_begun y.kind (begun f) (with_begun e begun f) (slice_get w.places f) (λ b. inr b)
        (i.has f y k at)

    first : (f : ℕ) → with_begun e begun f → Known es g f
    first f (inl same) = subst (Known es g) (sym same) knows
    first f (inr b) = i.begun_known f b

    now_done : (f : ℕ) → IsBody (suc f) (Body (suc e)) ⊎ IsDone g (suc f) → StandsFor es f (Body (suc e)) ⊎ Known es g f
    now_done f (inl same) = let is : e ≡ f = omega (arith, same) in inr (subst (Known es g) is knows)
    now_done f (inr done) = inr (i.done_known f done)

    defined : (f : ℕ) → HasBody es f → with_begun e begun f → IsBody (suc f) (Body (suc e)) ⊎ IsDone g (suc f)
    defined f has (inl same) = inl (ap suc same)
    defined f has (inr b) = inr (i.begun_done f b has)

    no_exception : (kind : EntryKind) (o : Option (Option Place)) → has_body kind ≡ true → IsUnplaced kind o
    no_exception Kinds.Exception o is = absurd cc
    no_exception kind o is = tt

    bare : (f : ℕ) (y : Entry) → slice_get es f ≡ Some y → with_begun e begun f
        → IsUnplaced y.kind (slice_get w.places f)
    bare f y at (inl same) =
        let here : HasBody es f = subst (HasBody es) (sym same) body in
        no_exception y.kind (slice_get w.places f) (sym (ap (is_of has_body) at) ∙ here)
    bare f y at (inr b) = i.unplaced f y b at

    earlier : (f : ℕ) → (IsDone (Body (suc e) ∷ g) (suc f) → ⊥) ⊎ with_begun e begun f → (IsDone g (suc f) → ⊥)
        ⊎ begun f
    earlier f (inl never) = inl (λ done. never (inr done))
    earlier f (inr (inl same)) = inl (λ done. new (subst (λ k. IsDone g (suc k)) same done))
    earlier f (inr (inr b)) = inr b

    again : (f : ℕ) → (IsDone g (suc f) → begun f) → IsBody (suc f) (Body (suc e)) ⊎ IsDone g (suc f)
        → with_begun e begun f
    again f old (inl same) = inl (omega (arith, same))
    again f old (inr done) = inr (old done)

    still : (n : ℕ) → IsLeft es g begun w.places n → IsLeft es (Body (suc e) ∷ g) (with_begun e begun) w.places n
    still n l = record { entry = l.entry; body = l.body; place = l.place; again = again l.entry l.again }

-- an exception, which has nothing yet
pub begins_unplaced : (es : List Entry) (g : List Introduction) (begun : ℕ → Type 0) (w : Lowered) (e : ℕ) (x : Entry)
    (scope : ℕ) (l : Leaf) → Keeps es g begun w
    → named es scope (word l) ≡ Some e → slice_get es e ≡ Some x → x.kind ≡ Kinds.Exception
    → slice_get w.places e ≡ Some None
    → Keeps es (Stands scope l Kinds.Exception ∷ g) (with_begun e begun) w
begins_unplaced es g begun w e x scope l i is at kind none = record {
  long = i.long;
  known = λ f p there. inr (i.known f p there);
  has = λ f y k here. by f y here k;
  begun_known = λ f b. first f b;
  begun_done = λ f b has. defined f has b;
  done_known = λ f done. now_done f done;
  unplaced = λ f y b here. bare f y here b;
  right = i.right;
  exceptions = i.exceptions;
  one = i.one;
  ahead = λ f n has place yet. i.ahead f n has place (earlier f has yet);
  left = λ n there. still n (i.left n there);
  basic = i.basic;
  sound = i.sound;
}
  where
    exception : (k : EntryKind) (o : Option (Option Place)) (b : Type 0) → k ≡ Kinds.Exception → b → HasPlace k b o
    exception k o b same has = subst (λ j. HasPlace j b o) (sym same) (inl has)

    by : (f : ℕ) (y : Entry) → slice_get es f ≡ Some y → (named es scope (word l) ≡ Some f) ⊎ Known es g f
        → HasPlace y.kind (with_begun e begun f) (slice_get w.places f)
    by f y here (inl stands) =
        let same : f ≡ e = cc in
        let there : slice_get es e ≡ Some y = subst (λ k. slice_get es k ≡ Some y) same here in
        let one : x ≡ y = cc in
        exception y.kind (slice_get w.places f) (with_begun e begun f) (sym (ap (λ z. z.kind) one) ∙ kind) (inl same)
    by f y here (inr k) = body_begun y.kind (begun f) (with_begun e begun f) (slice_get w.places f) (λ b. inr b)
        (i.has f y k here)

    first : (f : ℕ) → with_begun e begun f → (named es scope (word l) ≡ Some f) ⊎ Known es g f
    first f (inl same) = inl (is ∙ ap Some (sym same))
    first f (inr b) = inr (i.begun_known f b)

    now_done : (f : ℕ) → IsBody (suc f) (Stands scope l Kinds.Exception) ⊎ IsDone g (suc f)
        → (named es scope (word l) ≡ Some f) ⊎ Known es g f
    now_done f (inl never) = absurd never
    now_done f (inr done) = inr (i.done_known f done)

    other : (f : ℕ) → HasBody es f → f ≡ e → ⊥
    other f has same = no_body_of es e x at (ap has_body kind) (subst (HasBody es) same has)

    defined : (f : ℕ) → HasBody es f → with_begun e begun f → IsBody (suc f) (Stands scope l Kinds.Exception)
        ⊎ IsDone g (suc f)
    defined f has (inl same) = absurd (other f has same)
    defined f has (inr b) = inr (i.begun_done f b has)

    no_place : (k : EntryKind) (o : Option (Option Place)) → o ≡ Some None → IsUnplaced k o
    no_place Kinds.Exception o none = none
    no_place k o none = tt

    bare : (f : ℕ) (y : Entry) → slice_get es f ≡ Some y → with_begun e begun f
        → IsUnplaced y.kind (slice_get w.places f)
    bare f y here (inl same) = no_place y.kind (slice_get w.places f) (ap (slice_get w.places) same ∙ none)
    bare f y here (inr b) = i.unplaced f y b here

    earlier : (f : ℕ) → HasBody es f → (IsDone (Stands scope l Kinds.Exception ∷ g) (suc f) → ⊥) ⊎ with_begun e begun f
        → (IsDone g (suc f) → ⊥) ⊎ begun f
    earlier f has (inl never) = inl (λ done. never (inr done))
    earlier f has (inr (inl same)) = absurd (other f has same)
    earlier f has (inr (inr b)) = inr b

    again : (f : ℕ) → (IsDone g (suc f) → begun f) → IsBody (suc f) (Stands scope l Kinds.Exception) ⊎ IsDone g (suc f)
        → with_begun e begun f
    again f old (inl never) = absurd never
    again f old (inr done) = inr (old done)

    still : (n : ℕ) → IsLeft es g begun w.places n
        → IsLeft es (Stands scope l Kinds.Exception ∷ g) (with_begun e begun) w.places n
    still n l = record { entry = l.entry; body = l.body; place = l.place; again = again l.entry l.again }

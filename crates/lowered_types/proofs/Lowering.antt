-- One node more, one name more, one definition more: what is kept stays so.
use Rattle.std.proofs.Common.{◌≡◌, ◌∙◌, ◌⊎◌, inl, inr, ℕ, suc, ◌+◌, ◌≤◌, le_refl, false, List, [], ◌∷◌, ◌++◌, length, length-append, Some, None, Ok, refl, sym, ap, subst, arith}
use Rattle.std.specs.Prelude.{slice_get, slice_set}
use Rattle.std.proofs.lemmas.List.{length-set}
use Rattle.idl_tree.specs.declared.names.At.{At}
use Rattle.type_graph.specs.declared.fault.GraphLimit.TheVariants.{Nodes, AllMembers}
use Rattle.type_graph.specs.declared.node.Node.{Node}
use Rattle.type_graph.specs.GraphRules.{IsNoFrame, IsNode, IsPart, all_members, members_in}
use Rattle.name_table.specs.Entry.{Entry}
use Rattle.scoped_names.specs.Faults.{has_body}
use Rattle.scoped_names.specs.Introductions.{Introduction}
use Rattle.type_paths.specs.Sites.{Sites}
use Rattle.lowered_types.specs.declared.place.Place.{Place}
use Rattle.lowered_types.specs.declared.place.Place.TheVariants.{Typed}
use Rattle.lowered_types.specs.Faults.{at_most, max_all_members, max_nodes}
use Rattle.lowered_types.specs.Sound.{IsPlaceAmong}
use Rattle.lowered_types.specs.Lowered.{Lowered, Numbered, added, counted, next, placed, placed_at, undefined, with_node}
use Rattle.lowered_types.proofs.Fine.{Fine, and_then, at_most_fine}
use Rattle.lowered_types.proofs.Growing.{IsRight, id_stays, node_stays, push_grows, right_stays}
use Rattle.lowered_types.proofs.Keeping.{HasBody, HasPlace, IsException, IsLeft, IsSound, IsUnplaced, Keeps, Later, body_begun, no_body_of, place_stays}
use Rattle.lowered_types.proofs.Settled.{IsDone, Known}
use Rattle.lowered_types.proofs.Spots.{is_some_and, push_cases, push_low, same_or_not, set_cases, set_here, set_other, sum_push}
use Rattle.name_table.proofs.Stability.{get_push_last}

-- ---- a node more

pub grown_sound : (w : Lowered) (node : Node) (names : List (List ℕ)) (sites : Sites) → IsSound w
    → IsRight (w.nodes ++ node ∷ []) node → next w + 1 ≤ max_nodes
    → all_members w.nodes + members_in node ≤ w.members → IsSound (with_node w node names sites)
grown_sound w node names sites s right fits room = record {
  limited = let long = length-append w.nodes (node ∷ []) in omega (arith, long, fits);
  nodes = λ n old is. by n old (push_cases w.nodes node n old is);
  counted = let more = sum_push members_in w.nodes node in omega (arith, more, room);
  members = s.members;
  sites =
      let long = length-append w.nodes (node ∷ []) in
      let wide = length-append w.sites (sites ∷ []) in
      omega (arith, long, wide, s.sites);
  exceptions = let long = length-append w.nodes (node ∷ []) in let few = s.exceptions in omega (arith, long, few);
}
  where
    by : (n : ℕ) (old : Node) → (slice_get w.nodes n ≡ Some old) ⊎ ((n ≡ length w.nodes) × (node ≡ old))
        → IsRight (w.nodes ++ node ∷ []) old
    by n old (inl is) = right_stays w.nodes (w.nodes ++ node ∷ []) (push_grows w.nodes node) old (s.nodes n old is)
    by n old (inr (at, same)) = subst (IsRight (w.nodes ++ node ∷ [])) same right

-- one that has its definition
pub node_kept : (es : List Entry) (g : List Introduction) (begun : ℕ → Type 0) (w : Lowered) (node : Node)
    (names : List (List ℕ)) (sites : Sites) → Keeps es g begun w
    → IsNode w.nodes node → (node ≡ undefined → ⊥) → next w + 1 ≤ max_nodes
    → all_members w.nodes + members_in node ≤ w.members
    → Keeps es g begun (with_node w node names sites)
node_kept es g begun w node names sites i right defined fits room =
    let grows = push_grows w.nodes node in
    let later = w.nodes ++ node ∷ [] in
    record {
      long = i.long;
      known = i.known;
      has = i.has;
      begun_known = i.begun_known;
      begun_done = i.begun_done;
      done_known = i.done_known;
      unplaced = i.unplaced;
      right = λ e p is. place_stays w.nodes later (length w.exceptions) (length w.exceptions) grows
          (le_refl (length w.exceptions)) p (i.right e p is);
      exceptions = λ k x is.
          let old = i.exceptions k x is in
          record { place = old.place; frame = id_stays w.nodes later grows x.1 old.frame };
      one = i.one;
      ahead = λ e n body place yet. push_low w.nodes node n undefined (i.ahead e n body place yet);
      left = λ n is. by n (push_cases w.nodes node n undefined is);
      basic = λ n old is. push_low w.nodes node n old (i.basic n old is);
      sound = grown_sound w node names sites i.sound (inr (node_stays w.nodes later grows node right)) fits room;
    }
  where
    by : (n : ℕ) → (slice_get w.nodes n ≡ Some undefined) ⊎ ((n ≡ length w.nodes) × (node ≡ undefined))
        → IsLeft es g begun w.places n
    by n (inl is) = i.left n is
    by n (inr (at, same)) = absurd (defined same)

pub node_later : (w : Lowered) (node : Node) (names : List (List ℕ)) (sites : Sites)
    → Later w (with_node w node names sites)
node_later w node names sites =
    record { nodes = push_grows w.nodes node; places = λ e p is. is; exceptions = le_refl (length w.exceptions) }

-- what is lowered behind what declares nothing
pub record Adds (es : List Entry) (g : List Introduction) (begun : ℕ → Type 0) (w : Lowered) (n : Numbered) : Type 0
  where
    pub keeps : Keeps es g begun n.lowered
    pub later : Later w n.lowered
    pub part : IsPart n.lowered.nodes n.number
    pub places : n.lowered.places ≡ w.places
    pub exceptions : n.lowered.exceptions ≡ w.exceptions

-- a node that others may refer to, and that counts no members
pub added_fine : (es : List Entry) (g : List Introduction) (begun : ℕ → Type 0) (w : Lowered) (node : Node)
    (names : List (List ℕ)) (sites : Sites) → Keeps es g begun w
    → IsNode w.nodes node → (node ≡ undefined → ⊥) → IsNoFrame node → members_in node ≡ 0
    → Fine (Adds es g begun w) (added w node names sites)
added_fine es g begun w node names sites i right defined plain none =
    and_then (λ k. (k ≡ next w + 1) × (next w + 1 ≤ max_nodes)) (Adds es g begun w)
    (at_most max_nodes Nodes sites.at (next w + 1)) _
    (at_most_fine max_nodes Nodes sites.at (next w + 1)) (λ k h.
    let room : all_members w.nodes + members_in node ≤ w.members = let all = i.sound.counted in
    omega (arith, all, none) in
    record {
      keeps = node_kept es g begun w node names sites i right defined h.1 room;
      later = node_later w node names sites;
      part = is_some_and (slice_get (w.nodes ++ node ∷ []) (length w.nodes)) IsNoFrame node (get_push_last w.nodes node)
          plain;
      places = refl;
      exceptions = refl;
    })

-- so many members more
pub record Counts (es : List Entry) (g : List Introduction) (begun : ℕ → Type 0) (w : Lowered) (count : ℕ)
    (v : Lowered) : Type 0 where
  pub keeps : Keeps es g begun v
  pub later : Later w v
  pub nodes : v.nodes ≡ w.nodes
  pub places : v.places ≡ w.places
  pub exceptions : v.exceptions ≡ w.exceptions
  pub room : all_members w.nodes + count ≤ v.members

pub counted_fine : (es : List Entry) (g : List Introduction) (begun : ℕ → Type 0) (w : Lowered) (count : ℕ) (at : At)
    → Keeps es g begun w
    → Fine (Counts es g begun w count) (counted w count at)
counted_fine es g begun w count at i =
    and_then (λ k. (k ≡ w.members + count) × (w.members + count ≤ max_all_members)) (Counts es g begun w count)
    (at_most max_all_members AllMembers at (w.members + count)) _
    (at_most_fine max_all_members AllMembers at (w.members + count)) (λ k h.
    let s = i.sound in
    let all = s.counted in
    let is = h.0 in
    let fits = h.1 in
    record {
      keeps = record {
        long = i.long;
        known = i.known;
        has = i.has;
        begun_known = i.begun_known;
        begun_done = i.begun_done;
        done_known = i.done_known;
        unplaced = i.unplaced;
        right = i.right;
        exceptions = i.exceptions;
        one = i.one;
        ahead = i.ahead;
        left = i.left;
        basic = i.basic;
        sound = record {
          limited = s.limited;
          nodes = s.nodes;
          counted = omega (arith, all, is);
          members =
              omega (arith, is, fits);
          sites = s.sites;
          exceptions = s.exceptions;
        };
      };
      later = record {
        nodes = λ n node there. inl there;
        places = λ e p there. there;
        exceptions =
            le_refl (length w.exceptions);
      };
      nodes = refl;
      places = refl;
      exceptions = refl;
      room = omega (arith, all, is);
    })

-- ---- a name more

-- one more is known at most, and is known then
pub record Widens (es : List Entry) (g : List Introduction) (e : ℕ) (more : List Introduction) : Type 0 where
  pub grows : (f : ℕ) → Known es g f → Known es more f
  pub only : (f : ℕ) → Known es more f → (f ≡ e) ⊎ Known es g f
  pub here : Known es more e
  pub done : (s : ℕ) → IsDone g s → IsDone more s
  pub undone : (s : ℕ) → IsDone more s → IsDone g s

abbrev pub with_placed : Lowered → ℕ → Place → List (ℕ × ℕ) → Lowered
with_placed w e p exceptions = record w { places = slice_set w.places e (Some p); exceptions = exceptions }

-- the entry that isn't a structure or a union gets its place, and isn't begun any more
pub place_kept : (es : List Entry) (g more : List Introduction) (before begun : ℕ → Type 0) (w : Lowered) (e : ℕ)
    (x : Entry) (p : Place) (exceptions : List (ℕ × ℕ))
    → Keeps es g before w → Widens es g e more → slice_get w.places e ≡ Some None → slice_get es e ≡ Some x
    → has_body x.kind ≡ false
    → HasPlace x.kind (begun e) (Some (Some p)) → (begun e → ⊥) → ((f : ℕ) → begun f → before f)
    → ((f : ℕ) → (f ≡ e → ⊥) → before f → begun f)
    → length w.exceptions ≤ length exceptions → length exceptions ≤ length w.nodes
    → IsPlaceAmong w.nodes (length exceptions) p
    → ((k : ℕ) (y : ℕ × ℕ) → slice_get exceptions k ≡ Some y → IsException (slice_set w.places e (Some p)) w.nodes k y)
    → Keeps es more begun (with_placed w e p exceptions)
place_kept es g more before begun w e x p exceptions i widens none at no_body has ended narrower still le few right
    each = record {
      long = length-set w.places e (Some p) ∙ i.long;
      known = λ f q is. known f q (set_cases w.places e None (Some p) f (Some q) none is);
      has = λ f y knows there. has_place f y there knows (same_or_not f e);
      begun_known = λ f b. widens.grows f (i.begun_known f (narrower f b));
      begun_done = λ f b has. widens.done (suc f) (i.begun_done f (narrower f b) has);
      done_known = λ f done. widens.grows f (i.done_known f (widens.undone (suc f) done));
      unplaced = λ f y b there.
          let differs : f ≡ e → ⊥ = λ same. ended (subst begun same b) in
          subst (IsUnplaced y.kind) (sym (set_other w.places e f (Some p) differs))
          (i.unplaced f y (narrower f b) there);
      right = λ f q is. right_at f q (set_cases w.places e None (Some p) f (Some q) none is);
      exceptions = each;
      one = λ f h n one other first second. i.one f h n one other (earlier f n one first) (earlier h n other second);
      ahead = λ f n body place yet. i.ahead f n body (earlier f n body place) (not_yet f yet);
      left = λ n is. left n (i.left n is);
      basic = i.basic;
      sound = record {
        limited = i.sound.limited;
        nodes = i.sound.nodes;
        counted = i.sound.counted;
        members =
            i.sound.members;
        sites = i.sound.sites;
        exceptions = few;
      };
    }
  where
    known : (f : ℕ) (q : Place) → ((f ≡ e) × (Some p ≡ Some q)) ⊎ ((f ≡ e → ⊥) × (slice_get w.places f ≡ Some (Some q)))
        → Known es more f
    known f q (inl (same, is)) = subst (Known es more) (sym same) widens.here
    known f q (inr (differs, is)) = widens.grows f (i.known f q is)

    has_place : (f : ℕ) (y : Entry) → slice_get es f ≡ Some y → Known es more f → (f ≡ e) ⊎ (f ≡ e → ⊥)
        → HasPlace y.kind (begun f) (slice_get (slice_set w.places e (Some p)) f)
    has_place f y there knows (inl same) =
        let here : slice_get es e ≡ Some y = subst (λ k. slice_get es k ≡ Some y) same there in
        let one : x ≡ y = cc in
        let set : slice_get (slice_set w.places e (Some p)) e ≡ Some (Some p) =
        set_here w.places e None (Some p) none in
        subst (λ k. HasPlace y.kind (begun k) (slice_get (slice_set w.places e (Some p)) k)) (sym same)
        (subst (λ o. HasPlace y.kind (begun e) o) (sym set)
        (subst (λ z. HasPlace z.kind (begun e) (Some (Some p))) one has))
    has_place f y there knows (inr differs) =
        subst (λ o. HasPlace y.kind (begun f) o) (sym (set_other w.places e f (Some p) differs))
        (body_begun y.kind (before f) (begun f) (slice_get w.places f) (still f differs)
        (i.has f y (old f differs (widens.only f knows)) there))
      where
        old : (f : ℕ) → (f ≡ e → ⊥) → (f ≡ e) ⊎ Known es g f → Known es g f
        old f differs (inl same) = absurd (differs same)
        old f differs (inr knows) = knows

    right_at : (f : ℕ) (q : Place) → ((f ≡ e) × (Some p ≡ Some q))
        ⊎ ((f ≡ e → ⊥) × (slice_get w.places f ≡ Some (Some q))) → IsPlaceAmong w.nodes (length exceptions) q
    right_at f q (inl (same, is)) = let one : p ≡ q = cc in subst (IsPlaceAmong w.nodes (length exceptions)) one right
    right_at f q (inr (differs, is)) =
        place_stays w.nodes w.nodes (length w.exceptions) (length exceptions) (λ n node there. inl there) le q
        (i.right f q is)

    other : (f : ℕ) → HasBody es f → f ≡ e → ⊥
    other f body same = no_body_of es e x at no_body (subst (HasBody es) same body)

    earlier : (f n : ℕ) → HasBody es f → slice_get (slice_set w.places e (Some p)) f ≡ Some (Some (Typed n))
        → slice_get w.places f ≡ Some (Some (Typed n))
    earlier f n body is = sym (set_other w.places e f (Some p) (other f body)) ∙ is

    not_yet : (f : ℕ) → (IsDone more (suc f) → ⊥) ⊎ begun f → (IsDone g (suc f) → ⊥) ⊎ before f
    not_yet f (inl never) = inl (λ done. never (widens.done (suc f) done))
    not_yet f (inr b) = inr (narrower f b)

    left : (n : ℕ) → IsLeft es g before w.places n → IsLeft es more begun (slice_set w.places e (Some p)) n
    left n l = record {
      entry = l.entry;
      body = l.body;
      place = set_other w.places e l.entry (Some p) (other l.entry l.body) ∙ l.place;
      again = λ done. still l.entry (other l.entry l.body) (l.again (widens.undone (suc l.entry) done));
    }

pub place_later : (w : Lowered) (e : ℕ) (p : Place) (exceptions : List (ℕ × ℕ)) → slice_get w.places e ≡ Some None
    → length w.exceptions ≤ length exceptions
    → Later w (with_placed w e p exceptions)
place_later w e p exceptions none le = record {
  nodes = λ n node there. inl there;
  places = λ f q is. by f q is (same_or_not f e);
  exceptions = le;
}
  where
    by : (f : ℕ) (q : Place) → slice_get w.places f ≡ Some (Some q) → (f ≡ e) ⊎ (f ≡ e → ⊥)
        → slice_get (slice_set w.places e (Some p)) f ≡ Some (Some q)
    by f q is (inl same) = let there : slice_get w.places e ≡ Some (Some q) =
        subst (λ k. slice_get w.places k ≡ Some (Some q)) same is in absurd cc
    by f q is (inr differs) = set_other w.places e f (Some p) differs ∙ is

pub placed_is : (w : Lowered) (e : ℕ) (p : Place) → slice_get w.places e ≡ Some None
    → placed w e p ≡ Ok (with_placed w e p w.exceptions)
placed_is w e p none = ap (placed_at w e p) none

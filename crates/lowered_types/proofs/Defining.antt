-- Structures and unions are declared and get their definitions, exceptions their frames: what is kept stays so.
use Rattle.std.proofs.Common.{◌≡◌, ◌∙◌, ◌⊎◌, inl, inr, ℕ, zero, suc, ◌+◌, ◌-◌, ◌≤◌, le_refl, Bool, true, false, List, [], ◌∷◌, ◌++◌, length, length-append, Option, Some, None, Result, Ok, Err, refl, sym, ap, subst, arith}
use Rattle.std.specs.Prelude.{if◌then◌else◌, nat_lt, slice_get, slice_set, IsSomeAnd}
use Rattle.std.specs.List.{AllByRecursion}
use Rattle.std.proofs.lemmas.List.{length-set}
use Rattle.std.proofs.lemmas.Option.{slice_get_within}
use Rattle.idl_tree.specs.declared.names.At.{At}
use Rattle.type_graph.specs.BasicNodes.{basic_nodes}
use Rattle.type_graph.specs.declared.node.Node.{Node}
use Rattle.type_graph.specs.GraphRules.{IsNoFrame, IsNode, IsPart, all_members, members_in}
use Rattle.idl_tree.specs.declared.kinds.EntryKind.{EntryKind}
use Rattle.idl_tree.specs.declared.kinds.EntryKind.TheVariants as Kinds
use Rattle.name_table.specs.Entry.{Entry}
use Rattle.scoped_names.specs.Faults.{has_body}
use Rattle.scoped_names.specs.Introductions.{Introduction}
use Rattle.scoped_names.specs.Tests.{is_of}
use Rattle.type_paths.specs.Sites.{Sites}
use Rattle.lowered_types.specs.declared.fault.BuildFault.{BuildFault}
use Rattle.lowered_types.specs.declared.fault.BuildFault.TheVariants.{OtherNames}
use Rattle.lowered_types.specs.declared.place.Place.{Place}
use Rattle.lowered_types.specs.declared.place.Place.TheVariants.{Typed, Raised}
use Rattle.lowered_types.specs.Faults.{max_nodes}
use Rattle.lowered_types.specs.Sound.{IsIdFrame, IsPlaceAmong}
use Rattle.lowered_types.specs.Lowered.{Lowered, held_at, is_undefined, next, node_set, placed, raised_at, undefined, with_held, with_node}
use Rattle.lowered_types.proofs.Growing.{Grows, IsRight, id_stays, node_stays, push_grows, right_stays, set_grows}
use Rattle.lowered_types.proofs.Keeping.{HasBody, HasPlace, HasType, IsException, IsLeft, IsUnplaced, Keeps, Later, body_begun, place_stays, with_begun}
use Rattle.lowered_types.proofs.Settled.{IsDone, Known}
use Rattle.lowered_types.proofs.Spots.{is_some_and, push_cases, push_low, same_or_not, set_cases, set_here, set_other, sum_set}
use Rattle.lowered_types.proofs.Walks.{goes_on}
use Rattle.lowered_types.proofs.Lowering.{Widens, grown_sound, place_kept, place_later, placed_is, with_placed}
use Rattle.name_table.proofs.Stability.{get_push_last}

-- ---- basic types have their definitions

pub each_there : {T : Type 0} (P : T → Type 0) (xs : List T) (k : ℕ) (x : T) → AllByRecursion P xs
    → slice_get xs k ≡ Some x → P x
each_there P [] k x h is = absurd cc
each_there P (y ∷ ys) zero x (h, hs) is = let same : y ≡ x = cc in subst P same h
each_there P (y ∷ ys) (suc k) x (h, hs) is = each_there P ys k x hs is

abbrev IsDefined : Node → Type 0
IsDefined node = is_undefined (Some node) ≡ false

pub basic_defined : (n : ℕ) (node : Node) → slice_get basic_nodes n ≡ Some node → node ≡ undefined → ⊥
basic_defined n node is same =
    let told : is_undefined (Some node) ≡ false =
    each_there IsDefined basic_nodes n node (
      refl,
      (
        refl,
        (
          refl,
          (
            refl,
            (refl, (refl, (refl, (refl, (refl, (refl, (refl, (refl, (refl, (refl, tt)))))))))),
          ),
        ),
      ),
    ) is in
    let not_so : is_undefined (Some node) ≡ true = ap (λ k. is_undefined (Some k)) same in
    cc

-- ---- structures and unions that are declared

-- the next node has no definition, and is that of the entry
abbrev pub with_open : Lowered → ℕ → Sites → Lowered
with_open w e sites = record (with_node w undefined [] sites) { places = slice_set w.places e (Some (Typed (next w))) }

pub open_kept : (es : List Entry) (g more : List Introduction) (begun : ℕ → Type 0) (w : Lowered) (e : ℕ) (x : Entry)
    (sites : Sites)
    → Keeps es g begun w → Widens es g e more → slice_get w.places e ≡ Some None → slice_get es e ≡ Some x
    → has_body x.kind ≡ true
    → (Known es g e → ⊥) → next w + 1 ≤ max_nodes → Keeps es more begun (with_open w e sites)
open_kept es g more begun w e x sites i widens none at body new fits =
    let s = i.sound in
    let all = s.counted in
    let sound = grown_sound w undefined [] sites s (inl refl) fits (omega (arith, all)) in
    record {
      long = length-set w.places e (Some (Typed (next w))) ∙ i.long;
      known = λ f q is. known f q (cases f q is);
      has = λ f y knows there. has_place f y there knows (same_or_not f e);
      begun_known = λ f b. widens.grows f (i.begun_known f b);
      begun_done = λ f b has. widens.done (suc f) (i.begun_done f b has);
      done_known = λ f done. widens.grows f (i.done_known f (widens.undone (suc f) done));
      unplaced = λ f y b there.
          subst (IsUnplaced y.kind)
          (sym (set_other w.places e f (Some (Typed (next w)))
          (λ same. new (i.begun_known e (subst begun same b))))) (i.unplaced f y b there);
      right = λ f q is. right_at f q (cases f q is);
      exceptions = λ k y is. exception k y (i.exceptions k y is);
      one = λ f h n one other first second. same_entry f h n one other (cases f (Typed n) first)
          (cases h (Typed n) second);
      ahead = λ f n has place yet. ahead f n has yet (cases f (Typed n) place);
      left = λ n is. left n (push_cases w.nodes undefined n undefined is);
      basic = λ n old is. push_low w.nodes undefined n old (i.basic n old is);
      sound = record {
        limited = sound.limited;
        nodes = sound.nodes;
        counted = sound.counted;
        members =
            sound.members;
        sites = sound.sites;
        exceptions = sound.exceptions;
      };
    }
  where
    cases : (f : ℕ) (q : Place) → slice_get (slice_set w.places e (Some (Typed (next w)))) f ≡ Some (Some q)
        → ((f ≡ e) × (Some (Typed (next w)) ≡ Some q)) ⊎ ((f ≡ e → ⊥) × (slice_get w.places f ≡ Some (Some q)))
    cases f q is = set_cases w.places e None (Some (Typed (next w))) f (Some q) none is

    known : (f : ℕ) (q : Place) → ((f ≡ e) × (Some (Typed (next w)) ≡ Some q))
        ⊎ ((f ≡ e → ⊥) × (slice_get w.places f ≡ Some (Some q))) → Known es more f
    known f q (inl (same, is)) = subst (Known es more) (sym same) widens.here
    known f q (inr (differs, is)) = widens.grows f (i.known f q is)

    typed : (kind : EntryKind) (b : Type 0) (o : Option (Option Place)) → has_body kind ≡ true → HasType o
        → HasPlace kind b o
    typed Kinds.Struct b o is h = h
    typed Kinds.Union b o is h = h
    typed kind b o is h = absurd cc

    has_place : (f : ℕ) (y : Entry) → slice_get es f ≡ Some y → Known es more f → (f ≡ e) ⊎ (f ≡ e → ⊥)
        → HasPlace y.kind (begun f) (slice_get (slice_set w.places e (Some (Typed (next w)))) f)
    has_place f y there knows (inl same) =
        let here : slice_get es e ≡ Some y = subst (λ k. slice_get es k ≡ Some y) same there in
        let one : x ≡ y = cc in
        let set : slice_get (slice_set w.places e (Some (Typed (next w)))) e ≡ Some (Some (Typed (next w))) =
        set_here w.places e None (Some (Typed (next w))) none in
        typed y.kind (begun f) (slice_get (slice_set w.places e (Some (Typed (next w)))) f)
        (subst (λ z. has_body z.kind ≡ true) one body)
        (next w, ap (slice_get (slice_set w.places e (Some (Typed (next w))))) same ∙ set)
    has_place f y there knows (inr differs) =
        subst (λ o. HasPlace y.kind (begun f) o) (sym (set_other w.places e f (Some (Typed (next w))) differs))
        (i.has f y (old (widens.only f knows)) there)
      where
        old : (f ≡ e) ⊎ Known es g f → Known es g f
        old (inl same) = absurd (differs same)
        old (inr knows) = knows

    part_there : IsPart (w.nodes ++ undefined ∷ []) (next w)
    part_there = is_some_and (slice_get (w.nodes ++ undefined ∷ []) (next w)) IsNoFrame undefined
        (get_push_last w.nodes undefined) tt

    right_at : (f : ℕ) (q : Place) → ((f ≡ e) × (Some (Typed (next w)) ≡ Some q))
        ⊎ ((f ≡ e → ⊥) × (slice_get w.places f ≡ Some (Some q)))
        → IsPlaceAmong (w.nodes ++ undefined ∷ []) (length w.exceptions) q
    right_at f q (inl (same, is)) = let one : Typed (next w) ≡ q = cc in
        subst (IsPlaceAmong (w.nodes ++ undefined ∷ []) (length w.exceptions)) one part_there
    right_at f q (inr (differs, is)) =
        place_stays w.nodes (w.nodes ++ undefined ∷ []) (length w.exceptions) (length w.exceptions)
        (push_grows w.nodes undefined) (le_refl (length w.exceptions)) q (i.right f q is)

    exception : (k : ℕ) (y : ℕ × ℕ) → IsException w.places w.nodes k y
        → IsException (slice_set w.places e (Some (Typed (next w)))) (w.nodes ++ undefined ∷ []) k y
    exception k y old = record {
      place = set_other w.places e y.0 (Some (Typed (next w)))
          (λ same. new (subst (Known es g) same (i.known y.0 (Raised y.1 k) old.place))) ∙ old.place;
      frame = id_stays w.nodes (w.nodes ++ undefined ∷ []) (push_grows w.nodes undefined) y.1 old.frame;
    }

    -- the number is new
    beyond : (f n : ℕ) → slice_get w.places f ≡ Some (Some (Typed n)) → n ≡ next w → ⊥
    beyond f n is same =
        let (node, there) = of_part (slice_get w.nodes n) (i.right f (Typed n) is) in
        let lt = slice_get_within w.nodes n node there in
        omega (arith, lt, same)
      where
        of_part : (o : Option Node) → IsSomeAnd o IsNoFrame → (node : Node) × (o ≡ Some node)
        of_part None h = absurd h
        of_part (Some node) h = (node, refl)

    same_entry : (f h n : ℕ) → HasBody es f → HasBody es h → ((f ≡ e) × (Some (Typed (next w)) ≡ Some (Typed n)))
        ⊎ ((f ≡ e → ⊥) × (slice_get w.places f ≡ Some (Some (Typed n))))
        → ((h ≡ e) × (Some (Typed (next w)) ≡ Some (Typed n)))
        ⊎ ((h ≡ e → ⊥) × (slice_get w.places h ≡ Some (Some (Typed n)))) → f ≡ h
    same_entry f h n one other (inl (first, is)) (inl (second, is_too)) = first ∙ sym second
    same_entry f h n one other (inl (first, is)) (inr (differs, there)) = let same : n ≡ next w = cc in
        absurd (beyond h n there same)
    same_entry f h n one other (inr (differs, there)) (inl (second, is)) = let same : n ≡ next w = cc in
        absurd (beyond f n there same)
    same_entry f h n one other (inr (differs, there)) (inr (differs_too, there_too)) =
        i.one f h n one other there there_too

    ahead : (f n : ℕ) → HasBody es f → (IsDone more (suc f) → ⊥) ⊎ begun f
        → ((f ≡ e) × (Some (Typed (next w)) ≡ Some (Typed n)))
        ⊎ ((f ≡ e → ⊥) × (slice_get w.places f ≡ Some (Some (Typed n))))
        → slice_get (w.nodes ++ undefined ∷ []) n ≡ Some undefined
    ahead f n has yet (inl (same, is)) = let number : n ≡ next w = cc in
        ap (slice_get (w.nodes ++ undefined ∷ [])) number ∙ get_push_last w.nodes undefined
    ahead f n has yet (inr (differs, is)) = push_low w.nodes undefined n undefined (i.ahead f n has is (not_yet yet))
      where
        not_yet : (IsDone more (suc f) → ⊥) ⊎ begun f → (IsDone g (suc f) → ⊥) ⊎ begun f
        not_yet (inl never) = inl (λ done. never (widens.done (suc f) done))
        not_yet (inr b) = inr b

    left : (n : ℕ) → (slice_get w.nodes n ≡ Some undefined) ⊎ ((n ≡ length w.nodes) × (undefined ≡ undefined))
        → IsLeft es more begun (slice_set w.places e (Some (Typed (next w)))) n
    left n (inl is) = old (i.left n is)
      where
        old : IsLeft es g begun w.places n → IsLeft es more begun (slice_set w.places e (Some (Typed (next w)))) n
        old l = record {
          entry = l.entry;
          body = l.body;
          place = set_other w.places e l.entry (Some (Typed (next w)))
              (λ same. new (subst (Known es g) same (i.known l.entry (Typed n) l.place))) ∙ l.place;
          again = λ done. l.again (widens.undone (suc l.entry) done);
        }
    left n (inr (same, is)) = record {
      entry = e;
      body = ap (is_of has_body) at ∙ body;
      place = set_here w.places e None (Some (Typed (next w))) none ∙ ap (λ k. Some (Some (Typed k))) (sym same);
      again = λ done. absurd (new (i.done_known e (widens.undone (suc e) done)));
    }

pub open_later : (w : Lowered) (e : ℕ) (sites : Sites) → slice_get w.places e ≡ Some None
    → Later w (with_open w e sites)
open_later w e sites none = record {
  nodes = push_grows w.nodes undefined;
  places = (place_later w e (Typed (next w)) w.exceptions none (le_refl (length w.exceptions))).places;
  exceptions = le_refl (length w.exceptions);
}

-- ---- their definitions

pub held_long : (sites : List Sites) (number : ℕ) (held : List At) → length (held_at sites number held) ≡ length sites
held_long sites number held = by (nat_lt number 14) (slice_get sites (number - 14))
  where
    by : (b : Bool) (o : Option Sites) → length (if b then sites else with_held sites (number - 14) held o)
        ≡ length sites
    by true o = refl
    by false None = refl
    by false (Some l) = length-set sites (number - 14) (record { at = l.at; held = held })

abbrev pub with_defined : Lowered → ℕ → Node → List (List ℕ) → List At → Lowered
with_defined w number node names held =
    record w {
      nodes = slice_set w.nodes number node;
      names = slice_set w.names number names;
      sites =
          held_at w.sites number held;
    }

pub define_kept : (es : List Entry) (g : List Introduction) (begun : ℕ → Type 0) (w : Lowered) (e number : ℕ)
    (node : Node) (names : List (List ℕ)) (held : List At)
    → Keeps es g (with_begun e begun) w → HasBody es e → slice_get w.places e ≡ Some (Some (Typed number))
    → (begun e → ⊥) → IsDone g (suc e)
    → IsNode w.nodes node → (node ≡ undefined → ⊥) → IsNoFrame node → all_members w.nodes + members_in node ≤ w.members
    → Keeps es g begun (with_defined w number node names held)
define_kept es g begun w e number node names held i body place ended done right defined plain room =
    let open_yet : slice_get w.nodes number ≡ Some undefined = i.ahead e number body place (inr (inl refl)) in
    let later = slice_set w.nodes number node in
    let grows = set_grows w.nodes number node open_yet plain in
    record {
      long = i.long;
      known = i.known;
      has = λ f y knows there. has_place f y there (i.has f y knows there);
      begun_known = λ f b. i.begun_known f (inr b);
      begun_done = λ f b has. i.begun_done f (inr b) has;
      done_known = i.done_known;
      unplaced = λ f y b there. i.unplaced f y (inr b) there;
      right = λ f q is. place_stays w.nodes later (length w.exceptions) (length w.exceptions) grows
          (le_refl (length w.exceptions)) q (i.right f q is);
      exceptions = λ k y is. let old = i.exceptions k y is in
          record { place = old.place; frame = id_stays w.nodes later grows y.1 old.frame };
      one = i.one;
      ahead = λ f n has there yet. ahead f n has there yet;
      left = λ n is. left n (set_cases w.nodes number undefined node n undefined open_yet is);
      basic = λ n old is. basic n old is (same_or_not n number);
      sound = record {
        limited = let long = length-set w.nodes number node in let few = i.sound.limited in omega (arith, long, few);
        nodes = λ n old is. sound n old grows (set_cases w.nodes number undefined node n old open_yet is);
        counted = let more = sum_set members_in w.nodes number undefined node open_yet refl in
            omega (arith, more, room);
        members = i.sound.members;
        sites = length-set w.nodes number node ∙ i.sound.sites ∙ ap (λ n. n + 14) (sym (held_long w.sites number held));
        exceptions = let long = length-set w.nodes number node in let few = i.sound.exceptions in
            omega (arith, long, few);
      };
    }
  where
    any_body : (kind : EntryKind) (b c : Type 0) (o : Option (Option Place)) → has_body kind ≡ true → HasPlace kind b o
        → HasPlace kind c o
    any_body Kinds.Struct b c o is h = h
    any_body Kinds.Union b c o is h = h
    any_body kind b c o is h = absurd cc

    narrow : (f : ℕ) → (f ≡ e → ⊥) → with_begun e begun f → begun f
    narrow f differs (inl same) = absurd (differs same)
    narrow f differs (inr b) = b

    has_place : (f : ℕ) (y : Entry) → slice_get es f ≡ Some y
        → HasPlace y.kind (with_begun e begun f) (slice_get w.places f)
        → HasPlace y.kind (begun f) (slice_get w.places f)
    has_place f y there h = by (same_or_not f e)
      where
        by : (f ≡ e) ⊎ (f ≡ e → ⊥) → HasPlace y.kind (begun f) (slice_get w.places f)
        by (inl same) =
            let here : HasBody es f = subst (HasBody es) (sym same) body in
            any_body y.kind (with_begun e begun f) (begun f) (slice_get w.places f)
            (sym (ap (is_of has_body) there) ∙ here) h
        by (inr differs) = body_begun y.kind (with_begun e begun f) (begun f) (slice_get w.places f) (narrow f differs)
            h

    ahead : (f n : ℕ) → HasBody es f → slice_get w.places f ≡ Some (Some (Typed n)) → (IsDone g (suc f) → ⊥) ⊎ begun f
        → slice_get (slice_set w.nodes number node) n ≡ Some undefined
    ahead f n has there yet = by (same_or_not n number)
      where
        never : f ≡ e → (IsDone g (suc f) → ⊥) ⊎ begun f → ⊥
        never same (inl none) = none (subst (λ k. IsDone g (suc k)) (sym same) done)
        never same (inr b) = ended (subst begun same b)

        wider : (IsDone g (suc f) → ⊥) ⊎ begun f → (IsDone g (suc f) → ⊥) ⊎ with_begun e begun f
        wider (inl none) = inl none
        wider (inr b) = inr (inr b)

        by : (n ≡ number) ⊎ (n ≡ number → ⊥) → slice_get (slice_set w.nodes number node) n ≡ Some undefined
        by (inl same) =
            let at : slice_get w.places f ≡ Some (Some (Typed number)) =
            subst (λ k. slice_get w.places f ≡ Some (Some (Typed k))) same there in
            absurd (never (i.one f e number has body at place) yet)
        by (inr differs) = set_other w.nodes number n node differs ∙ i.ahead f n has there (wider yet)

    left : (n : ℕ) → ((n ≡ number) × (node ≡ undefined)) ⊎ ((n ≡ number → ⊥) × (slice_get w.nodes n ≡ Some undefined))
        → IsLeft es g begun w.places n
    left n (inl (same, is)) = absurd (defined is)
    left n (inr (differs, is)) = by (i.left n is)
      where
        by : IsLeft es g (with_begun e begun) w.places n → IsLeft es g begun w.places n
        by l = record { entry = l.entry; body = l.body; place = l.place; again = λ d. other (l.again d) }
          where
            other : with_begun e begun l.entry → begun l.entry
            other (inl same) =
                let at : slice_get w.places e ≡ Some (Some (Typed n)) =
                subst (λ k. slice_get w.places k ≡ Some (Some (Typed n))) same l.place in
                let numbers : n ≡ number = cc in
                absurd (differs numbers)
            other (inr b) = b

    basic : (n : ℕ) (old : Node) → slice_get basic_nodes n ≡ Some old → (n ≡ number) ⊎ (n ≡ number → ⊥)
        → slice_get (slice_set w.nodes number node) n ≡ Some old
    basic n old is (inl same) =
        let there = i.basic n old is in
        let at : slice_get w.nodes number ≡ Some old = subst (λ k. slice_get w.nodes k ≡ Some old) same there in
        let none : slice_get w.nodes number ≡ Some undefined = i.ahead e number body place (inr (inl refl)) in
        let one : old ≡ undefined = cc in
        absurd (basic_defined n old is one)
    basic n old is (inr differs) = set_other w.nodes number n node differs ∙ i.basic n old is

    sound : (n : ℕ) (old : Node) → Grows w.nodes (slice_set w.nodes number node)
        → ((n ≡ number) × (node ≡ old)) ⊎ ((n ≡ number → ⊥) × (slice_get w.nodes n ≡ Some old))
        → IsRight (slice_set w.nodes number node) old
    sound n old grows (inl (same, is)) =
        subst (IsRight (slice_set w.nodes number node)) is
        (inr (node_stays w.nodes (slice_set w.nodes number node) grows node right))
    sound n old grows (inr (differs, is)) =
        right_stays w.nodes (slice_set w.nodes number node) grows old (i.sound.nodes n old is)

pub define_later : (w : Lowered) (number : ℕ) (node : Node) (names : List (List ℕ)) (held : List At)
    → slice_get w.nodes number ≡ Some undefined → IsNoFrame node
    → Later w (with_defined w number node names held)
define_later w number node names held open_yet plain = record {
  nodes = set_grows w.nodes number node open_yet plain;
  places = λ e p is. is;
  exceptions = le_refl (length w.exceptions);
}

pub node_set_is : (w : Lowered) (number : ℕ) (node : Node) (names : List (List ℕ)) (held : List At)
    → slice_get w.nodes number ≡ Some undefined
    → node_set w number node names held ≡ Ok (with_defined w number node names held)
node_set_is w number node names held open_yet =
    ap (λ o. if is_undefined o then Ok (with_defined w number node names held) else Err OtherNames) open_yet

-- ---- exceptions

pub raise_kept : (es : List Entry) (g : List Introduction) (begun : ℕ → Type 0) (w : Lowered) (e frame : ℕ) (x : Entry)
    → Keeps es g (with_begun e begun) w → Known es g e → slice_get w.places e ≡ Some None → slice_get es e ≡ Some x
    → x.kind ≡ Kinds.Exception
    → (begun e → ⊥) → length w.exceptions + 1 ≤ length w.nodes → IsIdFrame w.nodes frame
    → Keeps es g begun (with_placed w e (Raised frame (length w.exceptions)) (w.exceptions ++ (e, frame) ∷ []))
raise_kept es g begun w e frame x i knows none at kind ended room id =
    let place = Raised frame (length w.exceptions) in
    let long = length-append w.exceptions ((e, frame) ∷ []) in
    place_kept es g g (with_begun e begun) begun w e x place (w.exceptions ++ (e, frame) ∷ []) i
    (record { grows = λ f k. k; only = λ f k. inr k; here = knows; done = λ s d. d; undone = λ s d. d }) none at
    (ap has_body kind)
    (has x.kind kind) ended (λ f b. inr b) narrow (omega (arith, long)) (omega (arith, long, room))
    (id, omega (arith, long)) (λ k y is. each k y (push_cases w.exceptions (e, frame) k y is))
  where
    has : (k : EntryKind) → k ≡ Kinds.Exception
        → HasPlace k (begun e) (Some (Some (Raised frame (length w.exceptions))))
    has k is = subst (λ j. HasPlace j (begun e) (Some (Some (Raised frame (length w.exceptions))))) (sym is)
        (inr (frame, length w.exceptions, refl))

    narrow : (f : ℕ) → (f ≡ e → ⊥) → with_begun e begun f → begun f
    narrow f differs (inl same) = absurd (differs same)
    narrow f differs (inr b) = b

    each : (k : ℕ) (y : ℕ × ℕ) → (slice_get w.exceptions k ≡ Some y) ⊎ ((k ≡ length w.exceptions) × ((e, frame) ≡ y))
        → IsException (slice_set w.places e (Some (Raised frame (length w.exceptions)))) w.nodes k y
    each k y (inl is) =
        let old = i.exceptions k y is in
        record { place = kept y.0 y.1 k old.place; frame = old.frame }
      where
        kept : (f n m : ℕ) → slice_get w.places f ≡ Some (Some (Raised n m))
            → slice_get (slice_set w.places e (Some (Raised frame (length w.exceptions)))) f ≡ Some (Some (Raised n m))
        kept f n m there = (place_later w e (Raised frame (length w.exceptions)) w.exceptions none
            (le_refl (length w.exceptions))).places f (Raised n m) there
    each k y (inr (at_end, is)) =
        let here = set_here w.places e None (Some (Raised frame (length w.exceptions))) none in
        let one : IsException (slice_set w.places e (Some (Raised frame (length w.exceptions)))) w.nodes
        (length w.exceptions) (e, frame) = record { place = here; frame = id } in
        subst (λ j. IsException (slice_set w.places e (Some (Raised frame (length w.exceptions)))) w.nodes j y)
        (sym at_end)
        (subst (IsException (slice_set w.places e (Some (Raised frame (length w.exceptions)))) w.nodes
        (length w.exceptions)) is one)

abbrev with_exception : ℕ → ℕ → Lowered → Result Lowered BuildFault
with_exception e frame there = Ok (record there { exceptions = there.exceptions ++ (e, frame) ∷ [] })

pub raised_is : (w : Lowered) (e frame : ℕ) → slice_get w.places e ≡ Some None
    → raised_at w e frame ≡ Ok (with_placed w e (Raised frame (length w.exceptions)) (w.exceptions ++ (e, frame) ∷ []))
raised_is w e frame none =
    goes_on (placed w e (Raised frame (length w.exceptions)))
    (with_placed w e (Raised frame (length w.exceptions)) w.exceptions) (with_exception e frame)
    (placed_is w e (Raised frame (length w.exceptions)) none)

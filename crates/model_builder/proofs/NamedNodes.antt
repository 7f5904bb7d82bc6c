-- What is lowered behind a part: the names of each node are apart, and one for one for its parts.
use Rattle.std.proofs.Common.{◌≡◌, ◌∙◌, ◌⊎◌, inl, inr, ◌<◌, ℕ, ◌+◌, Bool, true, false, List, [], ◌∷◌, ◌++◌, length, length-append, Option, Some, None, Result, Ok, Err, refl, sym, ap, subst, arith}
use Rattle.std.specs.Prelude.{if◌then◌else◌, nat_lt, slice_get, slice_set, MatchResult}
use Rattle.std.specs.List.{AllByRecursion, IsDistinct}
use Rattle.std.proofs.lemmas.List.{length-set}
use Rattle.std.proofs.lemmas.Option.{slice_get_within}
use Rattle.type_graph.specs.BasicNodes.{basic_nodes}
use Rattle.idl_tree.specs.declared.names.At.{At}
use Rattle.type_graph.specs.declared.fault.GraphLimit.{GraphLimit}
use Rattle.type_graph.specs.declared.fault.GraphLimit.TheVariants.{Nodes, AllMembers}
use Rattle.type_graph.specs.declared.node.Node.{Node}
use Rattle.type_graph.specs.declared.node.Node.TheVariants.{Struct}
use Rattle.type_paths.specs.Sites.{Sites}
use Rattle.scoped_names.specs.Reading.{◌>>◌}
use Rattle.type_model.specs.PartNamesNames.{AreApart}
use Rattle.lowered_types.specs.declared.fault.BuildFault.{BuildFault}
use Rattle.lowered_types.specs.declared.fault.BuildFault.TheVariants.{OtherNames}
use Rattle.lowered_types.specs.declared.place.Place.{Place}
use Rattle.lowered_types.specs.declared.place.Place.TheVariants.{Typed, Raised}
use Rattle.lowered_types.specs.Faults.{at_most, each, limit, max_all_members, max_nodes}
use Rattle.lowered_types.specs.Lowered.{Lowered, Numbered, added, already, counted, held_at, is_undefined, named_type, next, node_set, one_site, opened, opened_as, placed, placed_at, raised_at, type_of, undefined}
use Rattle.lowered_types.proofs.Defining.{basic_defined}
use Rattle.lowered_types.proofs.Spots.{push_cases, push_low, same_or_not, set_cases, set_other, there_at}
use Rattle.model_builder.specs.PartNames.{HaveNames}

-- ---- what holds where there is no fault

abbrev pub Leaves : {A : Type 0} → (A → Type 0) → Result A BuildFault → Type 0
Leaves good result = MatchResult result good (λ fault. Unit {0})

pub and_then : {A B : Type 0} (P : A → Type 0) (Q : B → Type 0) (r : Result A BuildFault)
    (next : A → Result B BuildFault) → Leaves P r
    → ((x : A) → P x → Leaves Q (next x)) → Leaves Q (r >> next)
and_then P Q (Ok x) next h f = f x h
and_then P Q (Err fault) next h f = tt

-- behind what says nothing of names
pub behind : {A B : Type 0} (Q : B → Type 0) (r : Result A BuildFault) (next : A → Result B BuildFault)
    → ((x : A) → r ≡ Ok x → Leaves Q (next x)) → Leaves Q (r >> next)
behind Q (Ok x) next f = f x refl
behind Q (Err fault) next f = tt

pub left : {A : Type 0} (P : A → Type 0) (r : Result A BuildFault) (x : A) → r ≡ Ok x → Leaves P r → P x
left P r x is h = subst (Leaves P) is h

pub each_leaves : {S T : Type 0} (P : S → Type 0) (one : S → T → Result S BuildFault) (Q : T → Type 0)
    → ((s : S) (x : T) → Q x → P s → Leaves P (one s x))
    → (s : S) (xs : List T) → AllByRecursion Q xs → P s → Leaves P (each one s xs)
each_leaves P one Q f s [] all h = h
each_leaves P one Q f s (x ∷ xs) (first, rest) h =
    and_then P P (one s x) (λ next. each one next xs) (f s x first h) (λ next k. each_leaves P one Q f next xs rest k)

pub most_is : (most : ℕ) (which : GraphLimit) (at : At) (n k : ℕ) → at_most most which at n ≡ Ok k → k ≡ n
most_is most which at n k is = by (nat_lt most n) is
  where
    by : (b : Bool) → (if b then Err (limit which most at) else Ok n) ≡ Ok k → k ≡ n
    by true h = absurd cc
    by false h = cc

-- what comes first of two that give something
pub then_done : {A B : Type 0} (r : Result A BuildFault) (next : A → Result B BuildFault) (y : B) → (r >> next) ≡ Ok y
    → (x : A) × (r ≡ Ok x) × (next x ≡ Ok y)
then_done (Ok x) next y h = (x, refl, h)
then_done (Err fault) next y h = absurd cc

-- ---- nodes with names

pub none_apart : AreApart []
unfolding IsDistinct
none_apart = tt

-- the names of the node of the number; those of the basic types have none
abbrev AreOf : ℕ → Node → List (List ℕ) → Type 0
AreOf n node names = AreApart names × ((n < 14) ⊎ HaveNames node (length names))

pub record AreNamed (graph : List Node) (names : List (List (List ℕ))) : Type 0 where
  pub long : length names ≡ length graph
  pub each : (n : ℕ) (node : Node) (own : List (List ℕ)) → slice_get graph n ≡ Some node → slice_get names n ≡ Some own
      → AreOf n node own
  pub basic : (n : ℕ) (node : Node) → slice_get basic_nodes n ≡ Some node
      → (slice_get graph n ≡ Some node) × (slice_get names n ≡ Some [])

abbrev pub Has : Lowered → Type 0
Has w = AreNamed w.nodes w.names

abbrev pub HasAll : Numbered → Type 0
HasAll n = Has n.lowered

push_named : (graph : List Node) (names : List (List (List ℕ))) (node : Node) (own : List (List ℕ))
    → AreNamed graph names → AreApart own → HaveNames node (length own)
    → AreNamed (graph ++ node ∷ []) (names ++ own ∷ [])
push_named graph names node own h apart fits =
    let long = h.long in
    let one = length-append graph (node ∷ []) in
    let other = length-append names (own ∷ []) in
    record {
      long = omega (arith, long, one, other);
      each = λ n k ks is told. by n k ks (push_cases graph node n k is) (push_cases names own n ks told);
      basic = λ n k is. let old = h.basic n k is in (push_low graph node n k old.0, push_low names own n [] old.1);
    }
  where
    by : (n : ℕ) (k : Node) (ks : List (List ℕ)) → (slice_get graph n ≡ Some k) ⊎ ((n ≡ length graph) × (node ≡ k))
        → (slice_get names n ≡ Some ks) ⊎ ((n ≡ length names) × (own ≡ ks)) → AreOf n k ks
    by n k ks (inl is) (inl told) = h.each n k ks is told
    by n k ks (inl is) (inr (at, same)) =
        let lt = slice_get_within graph n k is in
        let long = h.long in
        absurd (omega (arith, lt, at, long))
    by n k ks (inr (at, same)) (inl told) =
        let lt = slice_get_within names n ks told in
        let long = h.long in
        absurd (omega (arith, lt, at, long))
    by n k ks (inr (at, same)) (inr (at_too, same_too)) =
        subst (λ m. AreOf n m ks) same (subst (AreOf n node) same_too (apart, inr fits))

set_named : (graph : List Node) (names : List (List (List ℕ))) (number : ℕ) (node : Node) (own : List (List ℕ))
    → AreNamed graph names
    → slice_get graph number ≡ Some undefined → AreApart own → HaveNames node (length own)
    → AreNamed (slice_set graph number node) (slice_set names number own)
set_named graph names number node own h waits apart fits = record {
  long = length-set names number own ∙ h.long ∙ sym (length-set graph number node);
  each = λ n k ks is told. by n k ks is told (same_or_not n number);
  basic = λ n k is. first n k is (same_or_not n number);
}
  where
    by : (n : ℕ) (k : Node) (ks : List (List ℕ)) → slice_get (slice_set graph number node) n ≡ Some k
        → slice_get (slice_set names number own) n ≡ Some ks
        → (n ≡ number) ⊎ (n ≡ number → ⊥) → AreOf n k ks
    by n k ks is told (inr differs) =
        h.each n k ks (sym (set_other graph number n node differs) ∙ is)
        (sym (set_other names number n own differs) ∙ told)
    by n k ks is told (inl same) =
        let lt = slice_get_within graph number undefined waits in
        let long = h.long in
        let (old, there) = there_at names number (omega (arith, lt, long)) in
        let node_is = set_cases graph number undefined node n k waits is in
        let names_are = set_cases names number old own n ks there told in
        here same node_is names_are
      where
        here : n ≡ number → ((n ≡ number) × (node ≡ k)) ⊎ ((n ≡ number → ⊥) × (slice_get graph n ≡ Some k))
            → ((n ≡ number) × (own ≡ ks)) ⊎ ((n ≡ number → ⊥) × (slice_get names n ≡ Some ks)) → AreOf n k ks
        here same (inl (at, one)) (inl (at_too, other)) =
            subst (λ m. AreOf n m ks) one (subst (AreOf n node) other (apart, inr fits))
        here same (inr (differs, one)) other = absurd (differs same)
        here same one (inr (differs, other)) = absurd (differs same)

    first : (n : ℕ) (k : Node) → slice_get basic_nodes n ≡ Some k → (n ≡ number) ⊎ (n ≡ number → ⊥)
        → (slice_get (slice_set graph number node) n ≡ Some k) × (slice_get (slice_set names number own) n ≡ Some [])
    first n k is (inl same) =
        let there : slice_get graph number ≡ Some k = ap (slice_get graph) (sym same) ∙ (h.basic n k is).0 in
        let one : k ≡ undefined = cc in
        absurd (basic_defined n k is one)
    first n k is (inr differs) =
        let old = h.basic n k is in
        (set_other graph number n node differs ∙ old.0, set_other names number n own differs ∙ old.1)

-- ---- what is lowered

pub added_named : (w : Lowered) (node : Node) (names : List (List ℕ)) (sites : Sites) → Has w → AreApart names
    → HaveNames node (length names) → Leaves HasAll (added w node names sites)
added_named w node names sites h apart fits =
    behind HasAll (at_most max_nodes Nodes sites.at (next w + 1)) _
    (λ n is. push_named w.nodes w.names node names h apart fits)

pub counted_named : (w : Lowered) (count : ℕ) (at : At) → Has w → Leaves Has (counted w count at)
counted_named w count at h = behind Has (at_most max_all_members AllMembers at (w.members + count)) _ (λ all is. h)

pub placed_named : (w : Lowered) (e : ℕ) (p : Place) → Has w → Leaves Has (placed w e p)
placed_named w e p h = by (slice_get w.places e)
  where
    by : (o : Option (Option Place)) → Leaves Has (placed_at w e p o)
    by None = tt
    by (Some None) = h
    by (Some (Some q)) = tt

pub type_named : (w : Lowered) (e : ℕ) (node : Node) (names : List (List ℕ)) (at : At) → Has w → AreApart names
    → HaveNames node (length names) → Leaves HasAll (named_type w e node names at)
type_named w e node names at h apart fits =
    and_then HasAll HasAll (added w node names (one_site at)) _ (added_named w node names (one_site at) h apart fits)
    (λ a k.
    and_then Has HasAll (placed a.lowered e (Typed a.number)) (λ there. Ok (already there a.number))
    (placed_named a.lowered e (Typed a.number) k) (λ there m. m))

pub opened_named : (w : Lowered) (e : ℕ) (at : At) → Has w → Leaves HasAll (opened w e at)
opened_named w e at h = by (type_of w e)
  where
    by : (o : Option ℕ) → Leaves HasAll (opened_as w e at o)
    by None = type_named w e undefined [] at h none_apart refl
    by (Some n) = h

pub raised_named : (w : Lowered) (e frame : ℕ) → Has w → Leaves Has (raised_at w e frame)
raised_named w e frame h =
    and_then Has Has (placed w e (Raised frame (length w.exceptions))) _
    (placed_named w e (Raised frame (length w.exceptions)) h) (λ there k. k)

waits : (o : Option Node) → is_undefined o ≡ true → o ≡ Some undefined
waits None h = absurd cc
waits (Some (Struct [])) h = refl
waits (Some node) h = absurd cc

pub defined_named : (w : Lowered) (number : ℕ) (node : Node) (names : List (List ℕ)) (held : List At) → Has w
    → AreApart names → HaveNames node (length names)
    → Leaves Has (node_set w number node names held)
defined_named w number node names held h apart fits = by (is_undefined (slice_get w.nodes number)) refl
  where
    by : (b : Bool) → is_undefined (slice_get w.nodes number) ≡ b
        → Leaves Has (if b then Ok
        (record w {
          nodes = slice_set w.nodes number node;
          names = slice_set w.names number names;
          sites =
              held_at w.sites number held;
        }) else Err OtherNames)
    by true is = set_named w.nodes w.names number node names h (waits (slice_get w.nodes number) is) apart fits
    by false is = tt

-- Objects that can be served together.
use Rattle.std.proofs.Common.{◌≡◌, ◌↔◌, ℕ, ◌<◌, Bool, true, false, not, ◌&&◌, ◌||◌, All, slice_index_or, length, List, [], ◌∷◌, nat_lt, refl, sym, ap, subst, ◌∙◌}
use Rattle.std.specs.List.{IsDistinct, list_all, AllByRecursion}
use Rattle.std.specs.Str.{bytes_eq}
use Rattle.std.proofs.lemmas.Bool.{ltb-true, lt-ltb}
use Rattle.std.proofs.lemmas.List.Sums.{AllPass-from_list_all, list_all-from_AllPass}
use Rattle.type_model.specs.ModelRules.{Parts}
use Rattle.broker_answers.specs.Objects.{AreServed, Objects}
use Rattle.iiop_broker.specs.inner.Fitting.{AreFit, are_distinct, has_key}

both : (a b : Bool) → (a && b) ≡ true → (a ≡ true) × (b ≡ true)
both true b e = (refl, e)
both false b e = absurd (cc)

not_true : (b : Bool) → not b ≡ true → b ≡ false
not_true true e = absurd (cc)
not_true false e = refl

either : (a b : Bool) → (a || b) ≡ false → (a ≡ false) × (b ≡ false)
either true b e = absurd (cc)
either false b e = (refl, e)

apart_from : (key : List ℕ) (objects : Objects) → has_key key objects ≡ false
    → AllByRecursion (λ object. bytes_eq key object.0 ≡ false) objects
apart_from key [] e = tt
apart_from key (object ∷ more) e =
    let h = either (bytes_eq key object.0) (has_key key more) e in (h.0, apart_from key more h.1)

apart_to : (key : List ℕ) (objects : Objects) → AllByRecursion (λ object. bytes_eq key object.0 ≡ false) objects
    → has_key key objects ≡ false
apart_to key [] h = refl
apart_to key (object ∷ more) h = ap (λ (b : Bool). b || has_key key more) h.0 ∙ apart_to key more h.1

distinct_from : (objects : Objects) → are_distinct objects ≡ true
    → IsDistinct (λ one other. bytes_eq one.0 other.0) objects
unfolding IsDistinct
distinct_from [] e = tt
distinct_from (object ∷ more) e =
    let h = both (not (has_key object.0 more)) (are_distinct more) e in
    (apart_from object.0 more (not_true (has_key object.0 more) h.0), distinct_from more h.1)

distinct_to : (objects : Objects) → IsDistinct (λ one other. bytes_eq one.0 other.0) objects
    → are_distinct objects ≡ true
unfolding IsDistinct
distinct_to [] h = refl
distinct_to (object ∷ more) h =
    ap (λ (b : Bool). not b && are_distinct more) (apart_to object.0 more h.0) ∙ distinct_to more h.1

within_from : (count : ℕ) (objects : Objects) → list_all (λ object. nat_lt object.1 count) objects ≡ true
    → All (λ object. object.1 < count) objects
within_from count objects e = λ k d lt.
    ltb-true (slice_index_or objects k d).1 count
    (AllPass-from_list_all (λ object. nat_lt object.1 count) objects e k d lt)

within_to : (count : ℕ) (objects : Objects) → All (λ object. object.1 < count) objects
    → list_all (λ object. nat_lt object.1 count) objects ≡ true
within_to count objects h =
    list_all-from_AllPass (λ object. nat_lt object.1 count) objects
    (λ k d lt. lt-ltb (slice_index_or objects k d).1 count (h k d lt))

pub fit_then : (count : ℕ) (objects : Objects) (distinct within : Bool) → distinct ≡ are_distinct objects
    → within ≡ list_all (λ object. nat_lt object.1 count) objects → distinct ≡ true
    → (within ≡ true) ↔ AreFit count objects
fit_then count objects distinct within d w e = (
  λ t. record { distinct = distinct_from objects (sym d ∙ e); within = within_from count objects (sym w ∙ t) },
  λ h. w ∙ within_to count objects h.within,
)

pub fit_else : (count : ℕ) (objects : Objects) (distinct : Bool) → distinct ≡ are_distinct objects → distinct ≡ false
    → (distinct ≡ true) ↔ AreFit count objects
fit_else count objects distinct d e = (
  λ t. let never : true ≡ false = sym t ∙ e in absurd (cc),
  λ h. d ∙ distinct_to objects h.distinct,
)

pub served_from : (model : Parts) (count : ℕ) (objects : Objects) → count ≡ length model.interfaces
    → AreFit count objects
    → AreServed model objects
served_from model count objects e h = record {
  distinct = h.distinct;
  within = subst (λ (n : ℕ). All (λ object. object.1 < n) objects) e h.within;
}

pub served_to : (model : Parts) (count : ℕ) (objects : Objects) → count ≡ length model.interfaces
    → AreServed model objects
    → AreFit count objects
served_to model count objects e h = record {
  distinct = h.distinct;
  within = subst (λ (n : ℕ). All (λ object. object.1 < n) objects) (sym e) h.within;
}

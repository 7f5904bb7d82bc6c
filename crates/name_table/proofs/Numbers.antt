-- Keys that have numbers and are found by their order.
use Rattle.std.proofs.Common.{◌≡◌, ◌∙◌, ℕ, ◌+◌, ◌<◌, ◌≤◌, Bool, true, false, cond, List, [], ◌∷◌, ◌++◌, length, length-append, position, Option, Some, None, refl, sym, ap, subst, arith}
use Rattle.std.specs.Prelude.{IfSome, is_some}
use Rattle.std.specs.BTreeMap.{is_at}
use Rattle.std.specs.Cmp.{IsEquivalence, IsTotalOrder}
use Rattle.std.specs.List.{AllByRecursion, IsDistinct, list_any}
use Rattle.std.specs.Map.{lookup}
use Rattle.std.specs.declared.cmp.Ordering.{Ordering}
use Rattle.std.specs.Ordering.{eq_by_cmp, is_eq}
use Rattle.std.proofs.lemmas.Cmp.{eq_by_cmp_equiv}
use Rattle.std.proofs.lemmas.Map.Keys.{IsDistinct-push}
use Rattle.name_table.specs.inner.Keys.{AreNumbered}
use Rattle.name_table.proofs.Lookups.{position_same}
use Rattle.name_table.proofs.Stability.{or_place, position_any, position_low, position_push}

pub none_any : {K : Type 0} (p : K → Bool) (keys : List K) → list_any p keys ≡ false → position p keys ≡ None
none_any p keys h = by (position p keys) (position_any p keys ∙ h)
  where
    by : (o : Option ℕ) → is_some o ≡ false → o ≡ None
    by None h = refl
    by (Some n) h = cc

-- one more key
module _ {K : Type 0} (cmp : K → K → Ordering) (o : IsTotalOrder cmp) (numbers more : List (K × ℕ)) (keys : List K)
    (kept : AreNumbered cmp numbers keys) (key : K)
    (fresh : position (is_at (cmp key)) keys ≡ None) (longer : length more ≡ length numbers + 1)
    (updated : (q : K) → lookup (is_at (cmp q)) more
    ≡ cond (is_at (cmp key) q) (Some (length numbers)) (lookup (is_at (cmp q)) numbers)) where
  equal : IsEquivalence (eq_by_cmp cmp)
  equal = eq_by_cmp_equiv o

  numbered_after : (q : K) → lookup (is_at (cmp q)) more ≡ position (is_at (cmp q)) (keys ++ key ∷ [])
  numbered_after q = updated q ∙ by (is_eq (cmp key q)) refl ∙ sym (position_push (is_at (cmp q)) keys key)
    where
      rest : (r : Option ℕ) (b : Bool) → b ≡ false → r ≡ or_place r (cond b (Some (length keys)) None)
      rest (Some k) b h = refl
      rest None false h = refl
      rest None true h = cc

      by : (b : Bool) → is_eq (cmp key q) ≡ b
          → cond b (Some (length numbers)) (lookup (is_at (cmp q)) numbers)
          ≡ or_place (position (is_at (cmp q)) keys) (cond (is_eq (cmp q key)) (Some (length keys)) None)
      by true e =
          ap Some kept.counted
          ∙ sym (ap (λ r. or_place r (cond (is_eq (cmp q key)) (Some (length keys)) None))
          (position_same (is_at (cmp q)) (is_at (cmp key)) (λ x. sym (equal.congr key q x e)) keys ∙ fresh)
          ∙ ap (λ b. cond b (Some (length keys)) None) (equal.symm q key ∙ e))
      by false e = kept.numbered q ∙ rest (position (is_at (cmp q)) keys) (is_eq (cmp q key)) (equal.symm q key ∙ e)

  pub numbered_push : (all : List K) → all ≡ keys ++ key ∷ [] → AreNumbered cmp more all
  numbered_push all is = record {
    counted = let old = kept.counted in
        longer ∙ (let n : length numbers + 1 ≡ length (keys ++ key ∷ []) =
        omega (arith, length-append keys (key ∷ [])) in n) ∙ ap length (sym is);
    numbered = λ q. numbered_after q ∙ ap (position (is_at (cmp q))) (sym is);
    distinct = subst (IsDistinct (eq_by_cmp cmp)) (sym is)
        (IsDistinct-push equal keys key kept.distinct (sym (position_any (is_at (cmp key)) keys) ∙ ap is_some fresh));
  }

-- a key's number is below the count
pub number_below : {K : Type 0} (p : K → Bool) (keys : List K) (bound : ℕ) (o : Option ℕ) → o ≡ position p keys
    → length keys ≤ bound → IfSome o (λ n. n < bound)
number_below p keys bound None is low = tt
number_below p keys bound (Some n) is low = let lt = position_low p keys n (sym is) in omega arith

-- keys that are apart by one test are so by the other
pub distinct_by : {K : Type 0} (e f : K → K → Bool) → ((x y : K) → e x y ≡ f x y) → (keys : List K) → IsDistinct e keys
    → IsDistinct f keys
unfolding IsDistinct
distinct_by e f same [] h = tt
distinct_by {K = K} e f same (k ∷ ks) (first, rest) = (apart ks first, distinct_by e f same ks rest)
  where
    apart : (xs : List K) → AllByRecursion (λ x. e k x ≡ false) xs → AllByRecursion (λ x. f k x ≡ false) xs
    apart [] h = tt
    apart (x ∷ xs) (here, more) = (sym (same k x) ∙ here, apart xs more)

pub none_numbered : {K : Type 0} (cmp : K → K → Ordering) → AreNumbered cmp [] []
unfolding IsDistinct
none_numbered cmp = record { counted = refl; numbered = λ k. refl; distinct = tt }

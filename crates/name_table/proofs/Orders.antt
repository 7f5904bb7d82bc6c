-- Words in their order, and what is found by it.
use Rattle.std.proofs.Common.{◌≡◌, ◌∙◌, ℕ, suc, ◌<◌, Bool, true, cond, List, [], ◌∷◌, drop, get_or, length, map, refl, sym, ap, arith}
use Rattle.std.specs.Prelude.{Some, min, ◌||◌}
use Rattle.std.specs.Char.{to_ascii_lowercase}
use Rattle.std.specs.Cmp.Lexicographic.{same_text, slice_cmp}
use Rattle.std.specs.List.{list_any}
use Rattle.std.specs.Map.{lookup}
use Rattle.std.specs.declared.cmp.Ordering.{Ordering}
use Rattle.std.specs.declared.cmp.Ordering.TheVariants.{Less, Equal, Greater}
use Rattle.std.specs.Ordering.{MatchOrdering, is_eq, nat_cmp, ordering_then}
use Rattle.std.proofs.Math.Seq.{drop-cons}
use Rattle.std.proofs.lemmas.Cmp.{ranked}
use Rattle.std.proofs.lemmas.Slice.Eq.{bytes_eq-Decides}
use Rattle.name_table.specs.declared.key.Word.{Word}
use Rattle.name_table.specs.inner.Keys.{folded, word_cmp, word_ties}
use Rattle.name_table.specs.inner.Records.{is_word}
use Rattle.name_table.proofs.GivenBehind.{drop_none}

-- ---- two texts, octet by octet

abbrev low : List ℕ → List ℕ
low xs = map to_ascii_lowercase xs

abbrev pub order_from : List ℕ → List ℕ → ℕ → Ordering
order_from xs ys k = slice_cmp nat_cmp (map to_ascii_lowercase (drop k xs)) (map to_ascii_lowercase (drop k ys))

module _ (xs ys : List ℕ) (k : ℕ) where
  split : k < length xs → k < length ys
      → order_from xs ys k ≡ ordering_then
      (nat_cmp (to_ascii_lowercase (get_or xs k 0)) (to_ascii_lowercase (get_or ys k 0))) (order_from xs ys (suc k))
  split h i =
      ap (λ zs. slice_cmp nat_cmp (low zs) (low (drop k ys))) (drop-cons xs k 0 h)
      ∙ ap (λ zs. slice_cmp nat_cmp (low (get_or xs k 0 ∷ drop (suc k) xs)) (low zs)) (drop-cons ys k 0 i)

  pub order_next : (r : Ordering) → r ≡ Equal
      → r ≡ nat_cmp (to_ascii_lowercase (get_or xs k 0)) (to_ascii_lowercase (get_or ys k 0)) → k < length xs
      → k < length ys
      → order_from xs ys k ≡ order_from xs ys (suc k)
  order_next r same is h i = split h i ∙ ap (λ o. ordering_then o (order_from xs ys (suc k))) (sym is ∙ same)

  pub order_here : (r : Ordering) → (r ≡ Equal → ⊥)
      → r ≡ nat_cmp (to_ascii_lowercase (get_or xs k 0)) (to_ascii_lowercase (get_or ys k 0)) → k < length xs
      → k < length ys
      → r ≡ order_from xs ys k
  order_here r other is h i = by r other is ∙ sym (split h i)
    where
      by : (r : Ordering) → (r ≡ Equal → ⊥)
          → r ≡ nat_cmp (to_ascii_lowercase (get_or xs k 0)) (to_ascii_lowercase (get_or ys k 0))
          → r ≡ ordering_then (nat_cmp (to_ascii_lowercase (get_or xs k 0)) (to_ascii_lowercase (get_or ys k 0)))
          (order_from xs ys (suc k))
      by Less other is = ap (λ o. ordering_then o (order_from xs ys (suc k))) is
      by Equal other is = absurd (other refl)
      by Greater other is = ap (λ o. ordering_then o (order_from xs ys (suc k))) is

  pub order_end : (r : Ordering) → r ≡ nat_cmp (length xs) (length ys) → k ≡ min (length xs) (length ys)
      → r ≡ order_from xs ys k
  order_end r is at = by r (ranked (length xs) (length ys) r is)
    where
      by : (r : Ordering) → MatchOrdering r (length xs < length ys) (length xs ≡ length ys) (length ys < length xs)
          → r ≡ order_from xs ys k
      by Less lt =
          sym (ap (λ zs. slice_cmp nat_cmp (low zs) (low (drop k ys))) (drop_none xs k (omega arith))
          ∙ ap (λ zs. slice_cmp nat_cmp [] (low zs)) (drop-cons ys k 0 (omega arith)))
      by Equal same =
          sym (ap (λ zs. slice_cmp nat_cmp (low zs) (low (drop k ys))) (drop_none xs k (omega arith))
          ∙ ap (λ zs. slice_cmp nat_cmp [] (low zs)) (drop_none ys k (omega arith)))
      by Greater gt =
          sym (ap (λ zs. slice_cmp nat_cmp (low zs) (low (drop k ys))) (drop-cons xs k 0 (omega arith))
          ∙ ap (λ zs. slice_cmp nat_cmp (low (get_or xs k 0 ∷ drop (suc k) xs)) (low zs))
          (drop_none ys k (omega arith)))

-- ---- words

pub same_folded : (a b : Word) → word_cmp a b ≡ Equal → folded a ≡ folded b
same_folded a b h = same_text (folded a) (folded b) (sym (word_ties a b ∙ ap is_eq h))

is_equal : (o : Ordering) → is_eq o ≡ true → o ≡ Equal
is_equal Less h = cc
is_equal Equal h = refl
is_equal Greater h = cc

pub equal_words : (a b : Word) → folded a ≡ folded b → word_cmp a b ≡ Equal
equal_words a b h = is_equal (word_cmp a b) (sym (word_ties a b) ∙ (bytes_eq-Decides (folded a) (folded b)).1 h)

-- what a look-up by the word finds
pub word_found : (q k : Word) → is_eq (word_cmp q k) ≡ is_word q.text.now k
word_found q k = sym (word_ties q k)

-- ---- tests that agree

pub any_same : {K : Type 0} (p q : K → Bool) → ((x : K) → p x ≡ q x) → (xs : List K) → list_any p xs ≡ list_any q xs
any_same p q same [] = refl
any_same p q same (x ∷ xs) = ap (λ b. b || list_any p xs) (same x) ∙ ap (λ b. q x || b) (any_same p q same xs)

pub lookup_same : {K X : Type 0} (p q : K → Bool) → ((x : K) → p x ≡ q x) → (es : List (K × X))
    → lookup p es ≡ lookup q es
lookup_same p q same [] = refl
lookup_same p q same (e ∷ es) = ap (λ b. cond b (Some e.1) (lookup p es)) (same e.0)
    ∙ ap (cond (q e.0) (Some e.1)) (lookup_same p q same es)

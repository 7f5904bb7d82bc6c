use Rattle.std.proofs.Common.{◌≡◌, ◌∙◌, ℕ, zero, suc, ◌+◌, ◌<◌, ◌≤◌, Bool, true, false, inl, inr, List, [], ◌∷◌, length, drop, slice_index, ap, sym, refl, arith}
use Rattle.std.proofs.lemmas.Bool.Decides.{nat_tests}
use Rattle.std.proofs.lemmas.Bool.{cases_lt}
use Rattle.std.proofs.lemmas.List.{get_or-drop, get_or_past}
use Rattle.memchr.specs.Find.{OccursAt}
use Rattle.idl_lexer.specs.Gaps.{closes_at}
use Rattle.idl_lexer.proofs.comment.block_comment.Goals as goal

abbrev close : List ℕ
close = 42 ∷ 47 ∷ []

-- what is read behind the opening is read two places on in the whole
behind : (s t : List ℕ) (i : ℕ) → t ≡ drop 2 s → slice_index t i ≡ slice_index s (2 + i)
behind s t i e = ap (λ u. slice_index u i) e ∙ get_or-drop 2 s i 0

tested : (s : List ℕ) (k : ℕ) → slice_index s (k + 2) ≡ 42 → slice_index s (k + 2 + 1) ≡ 47 → closes_at s (k + 2) ≡ true
tested s k a b = grind (arith, nat_tests)

tells : (s : List ℕ) (k : ℕ) → closes_at s (k + 2) ≡ true → (slice_index s (k + 2) ≡ 42)
    × (slice_index s (k + 2 + 1) ≡ 47)
tells s k h = grind (arith, nat_tests)

found : (s t : List ℕ) (k : ℕ) → t ≡ drop 2 s → OccursAt t close k → closes_at s (k + 2) ≡ true
found s t k e o =
    tested s k
    (ap (slice_index s) (omega arith) ∙ sym (behind s t (k + 0) e) ∙ o.reads 0 (omega arith))
    (ap (slice_index s) (omega arith) ∙ sym (behind s t (k + 1) e) ∙ o.reads 1 (omega arith))

both : (t : List ℕ) (k : ℕ) → slice_index t k ≡ 42 → slice_index t (k + 1) ≡ 47 → (j : ℕ) → j < 2
    → slice_index t (k + j) ≡ slice_index close j
both t k a b zero lt = ap (slice_index t) (omega arith) ∙ a
both t k a b (suc zero) lt = b
both t k a b (suc (suc j)) lt = absurd (omega arith)

refuted : (b : Bool) → ¬ (b ≡ true) → b ≡ false
refuted true h = absurd (h refl)
refuted false h = refl

absent : (s t : List ℕ) (k : ℕ) → t ≡ drop 2 s → k + 2 ≤ length t → ¬ (OccursAt t close k) → closes_at s (k + 2) ≡ false
absent s t k e fits h =
    refuted _ (λ said. let two = tells s k said in h (record {
      fits = fits;
      reads = both t k
          (behind s t k e ∙ ap (slice_index s) (omega arith) ∙ two.0)
          (behind s t (k + 1) e ∙ ap (slice_index s) (omega arith) ∙ two.1);
    }))

pub returns-in-Some-clause-form : goal.returns-in-Some-clause-form
returns-in-Some-clause-form c =
    let first = c.in-Some.ensures.0 in
    let occurs = c.in-Some.ensures.1 in
    let whole = c.args.octets.now in
    let body = c.split_at.result.1.now in record {
      first = c.requires.first;
      second = c.requires.second;
      inner = c.in-Some.inner;
      closes = found whole body _ c.split_at.ensures.back occurs;
      before = λ k lt. absent whole body k c.split_at.ensures.back (omega (arith, occurs.fits))
          (first.before k (omega arith) lt);
      length = refl;
    }

-- where a comment closes, the mark occurs
occurs : (s t : List ℕ) (k : ℕ) → t ≡ drop 2 s → closes_at s (k + 2) ≡ true → OccursAt t close k
occurs s t k e closes =
    let two = tells s k closes in
    let last : slice_index t (k + 1) ≡ 47 = behind s t (k + 1) e ∙ ap (slice_index s) (omega arith) ∙ two.1 in
    record {
      fits = omega (arith, inside t (k + 1) last);
      reads = both t k (behind s t k e ∙ ap (slice_index s) (omega arith) ∙ two.0) last;
    }
  where
    inside : (t : List ℕ) (i : ℕ) → slice_index t i ≡ 47 → i + 1 ≤ length t
    inside t i last = elim (cases_lt i (length t)) [
      | inl less ↦ omega arith
      | inr past ↦ absurd (omega (arith, last, get_or_past t i 0 past))
    ]

pub returns-in-None-clause-refused : goal.returns-in-None-clause-refused
returns-in-None-clause-refused c n t =
    let at = occurs c.args.octets.now c.split_at.result.1.now t.inner c.split_at.ensures.back t.closes in
    c.in-None.ensures t.inner (omega arith) (omega (arith, at.fits)) at

-- Words as they are compared, and keys with numbers.
use Rattle.std.specs.Prelude.{◌≡◌, ℕ, Bool, true, false, map, length, position, nat_eq, List, [], ◌∷◌, ◌++◌, refl}
use Rattle.std.proofs.Common.{◌∙◌, sym, ap}
use Rattle.std.specs.BTreeMap.{is_at}
use Rattle.std.specs.Char.{to_ascii_lowercase}
use Rattle.std.specs.Cmp.{IsTotalOrder, nat_cmp_total, on_total, then_total, tied_itself}
use Rattle.std.specs.Cmp.Lexicographic.{nat_list_cmp_total, pointwise, same_text, slice_cmp, texts_ties}
use Rattle.std.specs.List.{IsDistinct}
use Rattle.std.specs.Map.{lookup}
use Rattle.std.specs.declared.cmp.Ordering.{Ordering}
use Rattle.std.specs.declared.cmp.Ordering.TheVariants.{Less, Equal, Greater}
use Rattle.std.specs.Ordering.{eq_by_cmp, is_eq, nat_cmp, on, ordering_then}
use Rattle.name_table.specs.declared.key.Word.{Word}
use Rattle.name_table.specs.declared.numbered.Past.{Past, Nothing, More'}
use Rattle.name_table.specs.inner.Codes.{code_of}

-- a word in lower case
abbrev pub folded : Word → List ℕ
folded w = map to_ascii_lowercase w.text.now

abbrev code_in : Word → ℕ
code_in w = w.code

-- the order of words: by code, and else by their letters
abbrev pub word_cmp : Word → Word → Ordering
word_cmp a b = ordering_then (nat_cmp (code_in a) (code_in b)) (slice_cmp nat_cmp (folded a) (folded b))

pub word_cmp_total : IsTotalOrder word_cmp
word_cmp_total =
    let codes : IsTotalOrder (on code_in nat_cmp) = on_total code_in nat_cmp_total in
    let letters : IsTotalOrder (on folded (slice_cmp nat_cmp)) = on_total folded nat_list_cmp_total in
    then_total codes letters

-- words are equal just where the order has them so
pub word_ties : (a b : Word) → pointwise nat_eq (folded a) (folded b) ≡ eq_by_cmp word_cmp a b
word_ties a b = by (pointwise nat_eq (folded a) (folded b)) refl
  where
    rest : (o r : Ordering) → is_eq r ≡ false → false ≡ is_eq (ordering_then o r)
    rest Less r h = refl
    rest Equal r h = sym h
    rest Greater r h = refl

    by : (t : Bool) → pointwise nat_eq (folded a) (folded b) ≡ t → t ≡ is_eq (word_cmp a b)
    by true is =
        let codes : a.code ≡ b.code = a.coded ∙ ap code_of (same_text (folded a) (folded b) (sym is)) ∙ sym b.coded in
        sym (ap (λ o. is_eq (ordering_then o (slice_cmp nat_cmp (folded a) (folded b))))
        (ap (nat_cmp a.code) (sym codes) ∙ tied_itself nat_cmp_total a.code)
        ∙ sym (texts_ties (folded a) (folded b)) ∙ is)
    by false is =
        rest (nat_cmp a.code b.code) (slice_cmp nat_cmp (folded a) (folded b))
        (sym (texts_ties (folded a) (folded b)) ∙ is)

-- the keys so far, in the order in which they came
abbrev pub keys_in : {K : Type 0} → Past K → List K
keys_in Nothing = []
keys_in (More' shape before last) = keys_in before ++ last ∷ []

-- each key has its place among those that came as its number
pub record AreNumbered {K : Type 0} (cmp : K → K → Ordering) (numbers : List (K × ℕ)) (keys : List K)
    : Type 0 where
  pub counted : length numbers ≡ length keys
  pub numbered : (k : K) → lookup (is_at (cmp k)) numbers ≡ position (is_at (cmp k)) keys
  pub distinct : IsDistinct (eq_by_cmp cmp) keys

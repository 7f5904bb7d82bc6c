-- A part more of an object, and all of them.
use Rattle.std.proofs.Common.{◌≡◌, ℕ, zero, suc, ◌<◌, List, [], ◌∷◌, length, get_or, map, replicate, zip, Option, Some, None, slice_get, refl, sym, ap, ◌∙◌, subst, arith}
use Rattle.std.specs.Prelude.{set, IsPermutation}
use Rattle.std.proofs.lemmas.List.Sorted.{IsPermutation-refl, IsPermutation-trans, IsPermutation-cons, IsPermutation-middle}
use Rattle.value_text.specs.inner.Slots.{AreSlots, AreParts, given}

-- Some and None differ
abbrev Is_there : {X : Type 0} → Option X → Type 0
Is_there None = ⊥
Is_there (Some x) = Unit {0}

abbrev Is_free : {X : Type 0} → Option (Option X) → Type 0
Is_free (Some None) = Unit {0}
Is_free found = ⊥

-- where every value is there, none is missing
pub none_missing : {X : Type 0} (values : List X) (place : ℕ) (slot : Option X) → place < length (map Some values)
    → slot ≡ get_or (map Some values) place slot → slot ≡ None → ⊥
none_missing [] place slot lt e none = omega (arith, lt)
none_missing (value ∷ values) zero slot lt e none = subst Is_there (sym e ∙ none) tt
none_missing (value ∷ values) (suc place) slot lt e none = none_missing values place slot (omega (arith, lt)) e none

pub place_within : {X : Type 0} (xs : List X) (place : ℕ) (x : X) → slice_get xs place ≡ Some x → place < length xs
place_within [] place x e = absurd (subst Is_there (sym e) tt)
place_within (first ∷ xs) zero x e = omega arith
place_within (first ∷ xs) (suc place) x e = let more = place_within xs place x e in omega (arith, more)

pub exchanged : {X : Type 0} (a b : X) (xs : List X) → IsPermutation (a ∷ b ∷ xs) (b ∷ a ∷ xs)
exchanged a b xs = IsPermutation-middle (a ∷ []) b xs

module _ {X T : Type 0} (Says : ℕ → X → T → Type 0) where
  -- none is there at first
  pub slots_empty : (numbers : List ℕ)
      → AreSlots Says numbers (replicate (length numbers) None) (replicate (length numbers) None)
  slots_empty [] = tt
  slots_empty (number ∷ numbers) = (tt, slots_empty numbers)

  -- where there is no value, there is no text
  pub slot_free : (numbers : List ℕ) (slots : List (Option X)) (texts : List (Option T)) (place : ℕ)
      → AreSlots Says numbers slots texts
      → slice_get slots place ≡ Some None → slice_get texts place ≡ Some None
  slot_free [] [] [] place h e = absurd (subst Is_free (sym e) tt)
  slot_free (number ∷ numbers) (None ∷ slots) (None ∷ texts) zero h e = refl
  slot_free (number ∷ numbers) (None ∷ slots) (Some text ∷ texts) zero h e = absurd h.0
  slot_free (number ∷ numbers) (Some value ∷ slots) (text ∷ texts) zero h e = absurd (subst Is_free (sym e) tt)
  slot_free (number ∷ numbers) (slot ∷ slots) (text ∷ texts) (suc place) h e = slot_free numbers slots texts place h.1 e
  slot_free numbers slots texts place h e = absurd h

  -- a value and its text are put where nothing is
  pub slot_filled : (numbers : List ℕ) (slots : List (Option X)) (texts : List (Option T)) (place number : ℕ)
      (value : X) (text : T)
      → AreSlots Says numbers slots texts → slice_get numbers place ≡ Some number → Says number value text
      → AreSlots Says numbers (set slots place (Some value)) (set texts place (Some text))
  slot_filled [] [] [] place number value text h e says = tt
  slot_filled (first ∷ numbers) (slot ∷ slots) (other ∷ texts) zero number value text h e says =
      (subst (λ n. Says n value text) (first_is e) says, h.1)
    where
      or_first : Option ℕ → ℕ
      or_first None = first
      or_first (Some n) = n

      first_is : Some first ≡ Some number → number ≡ first
      first_is e = sym (ap or_first e)
  slot_filled (first ∷ numbers) (slot ∷ slots) (other ∷ texts) (suc place) number value text h e says =
      (h.0, slot_filled numbers slots texts place number value text h.1 e says)
  slot_filled numbers slots texts place number value text h e says = absurd h

  -- where every value is there, every text is
  pub record Whole (labels : List (List ℕ)) (numbers : List ℕ) (values : List X) (texts : List (Option T)) : Type 0
    where
      pub own : List T
      pub are_parts : AreParts Says numbers values own
      pub are_all : given labels texts ≡ zip labels own

  pub slots_whole : (labels : List (List ℕ)) (numbers : List ℕ) (values : List X) (texts : List (Option T))
      → AreSlots Says numbers (map Some values) texts
      → Whole labels numbers values texts
  slots_whole [] [] [] [] h = record { own = []; are_parts = tt; are_all = refl }
  slots_whole (label ∷ labels) [] [] [] h = record { own = []; are_parts = tt; are_all = refl }
  slots_whole [] (number ∷ numbers) (value ∷ values) (Some text ∷ texts) h =
      let rest = slots_whole [] numbers values texts h.1 in
      record { own = text ∷ rest.own; are_parts = (h.0, rest.are_parts); are_all = refl }
  slots_whole (label ∷ labels) (number ∷ numbers) (value ∷ values) (Some text ∷ texts) h =
      let rest = slots_whole labels numbers values texts h.1 in
      record {
        own = text ∷ rest.own;
        are_parts = (h.0, rest.are_parts);
        are_all =
            ap (λ pairs. (label, text) ∷ pairs) rest.are_all;
      }
  slots_whole labels (number ∷ numbers) (value ∷ values) (None ∷ texts) h = absurd h.0
  slots_whole labels numbers values texts h = absurd h

module _ {T : Type 0} where
  pub given_none : (labels : List (List ℕ)) (n : ℕ) → given {T = T} labels (replicate n None) ≡ []
  given_none [] n = refl
  given_none (label ∷ labels) zero = refl
  given_none (label ∷ labels) (suc n) = given_none labels n

  -- one pair more
  pub given_more : (labels : List (List ℕ)) (texts : List (Option T)) (place : ℕ) (label : List ℕ) (text : T)
      → slice_get labels place ≡ Some label → slice_get texts place ≡ Some None
      → IsPermutation ((label, text) ∷ given labels texts) (given labels (set texts place (Some text)))
  given_more [] texts place label text e free = absurd (subst Is_there (sym e) tt)
  given_more (first ∷ labels) [] place label text e free = absurd (subst Is_there (sym free) tt)
  given_more (first ∷ labels) (Some other ∷ texts) zero label text e free = absurd (subst Is_free (sym free) tt)
  given_more (first ∷ labels) (None ∷ texts) zero label text e free =
      subst (λ l. IsPermutation ((l, text) ∷ given labels texts) ((first, text) ∷ given labels texts)) (first_is e)
      (IsPermutation-refl ((first, text) ∷ given labels texts))
    where
      or_first : Option (List ℕ) → List ℕ
      or_first None = first
      or_first (Some l) = l

      first_is : Some first ≡ Some label → first ≡ label
      first_is e = ap or_first e
  given_more (first ∷ labels) (Some other ∷ texts) (suc place) label text e free =
      IsPermutation-trans ((label, text) ∷ (first, other) ∷ given labels texts)
      ((first, other) ∷ (label, text) ∷ given labels texts)
      ((first, other) ∷ given labels (set texts place (Some text)))
      (exchanged (label, text) (first, other) (given labels texts))
      (IsPermutation-cons (first, other) ((label, text) ∷ given labels texts)
      (given labels (set texts place (Some text))) (given_more labels texts place label text e free))
  given_more (first ∷ labels) (None ∷ texts) (suc place) label text e free =
      given_more labels texts place label text e free

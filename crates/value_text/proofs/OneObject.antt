-- Members by their names, in two orders: what one object says the other does.
use Rattle.std.proofs.Common.{◌≡◌, ◌⊎◌, inl, inr, ℕ, false, List, [], ◌∷◌, ◌++◌, drop, map, refl, sym, ap, ◌∙◌, subst, append_assoc}
use Rattle.std.specs.Prelude.{IsPermutation}
use Rattle.std.specs.List.{AllByRecursion}
use Rattle.std.specs.Str.{str_eq_ignore_ascii_case}
use Rattle.std.proofs.lemmas.Bool.{false≢true}
use Rattle.std.proofs.lemmas.List.Sorted.{IsPermutation-sym, All-permutation}
use Rattle.std.proofs.lemmas.Map.Keys.{IsDistinct-head, IsDistinct-tail}
use Rattle.std.proofs.lemmas.List.Elements.{All-from_recursion, recursion_from_All}
use Rattle.json.specs.Token.{Token, key, end_object, bad}
use Rattle.type_model.specs.PartNamesNames.{AreApart}
use Rattle.type_graph.specs.Value.{Tree}
use Rattle.value_text.specs.Pieces.{paired}
use Rattle.value_text.proofs.OneNumber.{text_in, same_itself}

-- the first of some tokens
abbrev pub first_of_tokens : List Token → Token
first_of_tokens [] = bad
first_of_tokens (token ∷ tokens) = token

abbrev pub Is_key : Token → Type 0
Is_key (key name) = Unit {0}
Is_key token = ⊥

-- ---- one of a list

abbrev pub In : {X : Type 0} → X → List X → Type 0
In x [] = ⊥
In x (y ∷ ys) = (x ≡ y) ⊎ In x ys

in_all : {X Y : Type 0} (f : X → Y) (P : Y → Type 0) (xs : List X) (x : X) → AllByRecursion P (map f xs) → In x xs
    → P (f x)
in_all f P [] x h i = absurd i
in_all f P (y ∷ ys) x h (inl e) = subst (λ z. P (f z)) (sym e) h.0
in_all f P (y ∷ ys) x h (inr i) = in_all f P ys x h.1 i

all_in : {X : Type 0} (P : X → Type 0) (xs : List X) → ((x : X) → In x xs → P x) → AllByRecursion P xs
all_in P [] h = tt
all_in P (x ∷ xs) h = (h x (inl refl), all_in P xs (λ y i. h y (inr i)))

pub shuffled : {X : Type 0} (P : X → Type 0) (xs ys : List X) → IsPermutation xs ys → AllByRecursion P xs
    → AllByRecursion P ys
shuffled P xs ys order h = recursion_from_All P ys (All-permutation P xs ys order (All-from_recursion P xs h))

-- ---- a member with its texts in two objects, which say the same

pub record Part : Type 0 where
  pub label : List ℕ
  pub value : Tree
  pub other : Tree
  pub text : List Token
  pub second : List Token
  pub one : (r s : List Token) → text ++ r ≡ second ++ s → (value ≡ other) × (r ≡ s)

abbrev pub label_of_part : Part → List ℕ
label_of_part part = part.label

abbrev pub pair_of : Part → List ℕ × List Token
pair_of part = (part.label, part.text)

abbrev pub second_of : Part → List ℕ × List Token
second_of part = (part.label, part.second)

abbrev pub IsSame : Part → Type 0
IsSame part = part.value ≡ part.other

elsewhere : (p : Part) (parts : List Part) (b : Part)
    → AllByRecursion (λ name. str_eq_ignore_ascii_case p.label name ≡ false) (map label_of_part parts) → In b parts
    → p.label ≡ b.label → ⊥
elsewhere p parts b apart j e =
    false≢true (sym (in_all label_of_part (λ name. str_eq_ignore_ascii_case p.label name ≡ false) parts b apart j)
    ∙ ap (λ l. str_eq_ignore_ascii_case l b.label) e ∙ same_itself b.label)

distinct : (parts : List Part) → AreApart (map label_of_part parts) → (a b : Part) → In a parts → In b parts
    → a.label ≡ b.label → a ≡ b
distinct [] apart a b i j e = absurd i
distinct (p ∷ parts) apart a b (inl h) (inl k) e = h ∙ sym k
distinct (p ∷ parts) apart a b (inl h) (inr j) e =
    absurd (elsewhere p parts b (IsDistinct-head str_eq_ignore_ascii_case p.label (map label_of_part parts) apart) j
    (ap label_of_part (sym h) ∙ e))
distinct (p ∷ parts) apart a b (inr i) (inl k) e =
    absurd (elsewhere p parts a (IsDistinct-head str_eq_ignore_ascii_case p.label (map label_of_part parts) apart) i
    (ap label_of_part (sym k) ∙ sym e))
distinct (p ∷ parts) apart a b (inr i) (inr j) e =
    distinct parts (IsDistinct-tail str_eq_ignore_ascii_case p.label (map label_of_part parts) apart) a b i j e

module _ (all : List Part) (apart : AreApart (map label_of_part all)) where
  -- a pair is that of one of the parts
  abbrev Has : (Part → List ℕ × List Token) → List ℕ × List Token → Type 0
  Has f pair = (part : Part) × In part all × (f part ≡ pair)

  have : (f : Part → List ℕ × List Token) (parts : List Part) → ((part : Part) → In part parts → In part all)
      → AllByRecursion (Has f) (map f parts)
  have f [] sub = tt
  have f (part ∷ parts) sub = ((part, sub part (inl refl), refl), have f parts (λ p i. sub p (inr i)))

  -- the same, and both texts of the part say one value
  abbrev Says_one : List ℕ × List Token → Type 0
  Says_one pair = (part : Part) × In part all × (pair_of part ≡ pair) × IsSame part

  walk : (ps qs : List (List ℕ × List Token)) (r s : List Token) → AllByRecursion (Has pair_of) ps
      → AllByRecursion (Has second_of) qs
      → paired ps ++ end_object ∷ r ≡ paired qs ++ end_object ∷ s → AllByRecursion Says_one ps × (r ≡ s)
  walk [] [] r s h k e = (tt, ap (drop 1) e)
  walk [] (q ∷ qs) r s h k e = absurd (subst Is_key (sym (ap first_of_tokens e)) tt)
  walk (p ∷ ps) [] r s h k e = absurd (subst Is_key (ap first_of_tokens e) tt)
  walk (p ∷ ps) (q ∷ qs) r s h k e =
      let a = h.0.0 in
      let b = k.0.0 in
      let more = paired ps ++ end_object ∷ r in
      let others = paired qs ++ end_object ∷ s in
      let named : p.0 ≡ q.0 = ap text_in (ap first_of_tokens e) in
      let same : a ≡ b = distinct all apart a b h.0.1 k.0.1 (ap (λ l. l.0) h.0.2 ∙ named ∙ sym (ap (λ l. l.0) k.0.2)) in
      let mine : a.text ≡ p.1 = ap (λ l. l.1) h.0.2 in
      let its : a.second ≡ q.1 = ap (λ part. part.second) same ∙ ap (λ l. l.1) k.0.2 in
      let behind : p.1 ++ more ≡ q.1 ++ others = sym (append_assoc p.1 (paired ps) (end_object ∷ r)) ∙ ap (drop 1) e
      ∙ append_assoc q.1 (paired qs) (end_object ∷ s) in
      let one = a.one more others (ap (λ l. l ++ more) mine ∙ behind ∙ sym (ap (λ l. l ++ others) its)) in
      let rest = walk ps qs r s h.1 k.1 one.1 in
      (((a, h.0.1, h.0.2, one.0), rest.0), rest.1)

  pub objects_one : (ps qs : List (List ℕ × List Token)) (r s : List Token) → IsPermutation (map pair_of all) ps
      → IsPermutation (map second_of all) qs
      → paired ps ++ end_object ∷ r ≡ paired qs ++ end_object ∷ s → AllByRecursion IsSame all × (r ≡ s)
  objects_one ps qs r s order others e =
      let walked = walk ps qs r s (shuffled (Has pair_of) (map pair_of all) ps order (have pair_of all (λ part i. i)))
      (shuffled (Has second_of) (map second_of all) qs others (have second_of all (λ part i. i))) e in
      let back = shuffled Says_one ps (map pair_of all) (IsPermutation-sym (map pair_of all) ps order) walked.0 in (
        all_in IsSame all (λ part i.
            let found = in_all pair_of Says_one all part back i in
            subst IsSame (distinct all apart found.0 part found.1 i (ap (λ l. l.0) found.2)) found.3),
        walked.1,
      )

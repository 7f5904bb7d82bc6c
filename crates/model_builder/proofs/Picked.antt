-- Names that are picked from what is introduced in a scope are apart, since nothing clashes.
use Rattle.std.proofs.Common.{◌≡◌, ◌∙◌, ℕ, Bool, true, false, List, [], ◌∷◌, ◌++◌, map, append_assoc, refl, sym, ap, subst}
use Rattle.std.specs.Prelude.{◌&&◌}
use Rattle.std.specs.List.{AllByRecursion, IsDistinct}
use Rattle.std.specs.Str.{str_eq_ignore_ascii_case}
use Rattle.std.proofs.lemmas.Bool.{eq-eqb}
use Rattle.idl_tree.specs.declared.names.Leaf.{Leaf}
use Rattle.idl_tree.specs.declared.kinds.EntryKind.TheVariants as Kinds
use Rattle.name_table.specs.Search.{word}
use Rattle.scoped_names.specs.Introductions.{Introduction, Stands, Has, clashes, is_one_name}
use Rattle.type_model.specs.PartNamesNames.{AreApart}

-- ---- lists

pub all_split : {X : Type 0} (P : X → Type 0) (xs ys : List X) → AllByRecursion P (xs ++ ys)
    → AllByRecursion P xs × AllByRecursion P ys
all_split P [] ys h = (tt, h)
all_split P (x ∷ xs) ys h = let rest = all_split P xs ys h.1 in ((h.0, rest.0), rest.1)

pub distinct_split : {X : Type 0} (eq : X → X → Bool) (xs ys : List X) → IsDistinct eq (xs ++ ys)
    → IsDistinct eq xs × IsDistinct eq ys
unfolding IsDistinct
distinct_split eq [] ys h = (tt, h)
distinct_split eq (x ∷ xs) ys h =
    let first = all_split (λ y. eq x y ≡ false) xs ys h.0 in
    let rest = distinct_split eq xs ys h.1 in
    ((first.0, rest.0), rest.1)

pub distinct_head : {X : Type 0} (eq : X → X → Bool) (x : X) (xs : List X) → IsDistinct eq (x ∷ xs)
    → AllByRecursion (λ y. eq x y ≡ false) xs × IsDistinct eq xs
unfolding IsDistinct
distinct_head eq x xs h = (h.0, h.1)

-- ---- names of members

-- each name is that of a member of the scope, in order
abbrev pub Picked : ℕ → List (List ℕ) → List Introduction → Type 0
Picked s [] xs = Unit {0}
Picked s (n ∷ ns) xs = (before : List Introduction) × (l : Leaf) × (after : List Introduction)
    × (xs ≡ before ++ Has s l ∷ after) × (word l ≡ n) × Picked s ns after

pub picked_behind : (s : ℕ) (ns : List (List ℕ)) (before xs : List Introduction) → Picked s ns xs
    → Picked s ns (before ++ xs)
picked_behind s [] before xs h = tt
picked_behind s (n ∷ ns) before xs (mid, l, after, is, called, rest) =
    (before ++ mid, l, after, ap (λ z. before ++ z) is ∙ sym (append_assoc before mid (Has s l ∷ after)), called, rest)

pub picked_both : (s : ℕ) (ns ms : List (List ℕ)) (xs ys : List Introduction) → Picked s ns xs → Picked s ms ys
    → Picked s (ns ++ ms) (xs ++ ys)
picked_both s [] ms xs ys h k = picked_behind s ms xs ys k
picked_both s (n ∷ ns) ms xs ys (mid, l, after, is, called, rest) k = (
  mid,
  l,
  after ++ ys,
  ap (λ z. z ++ ys) is ∙ append_assoc mid (Has s l ∷ after) ys,
  called,
  picked_both s ns ms after ys rest k,
)

-- two members of one scope
members_apart : (s : ℕ) (l m : Leaf) → clashes (Has s l) (Has s m) ≡ false
    → str_eq_ignore_ascii_case (word l) (word m) ≡ false
members_apart s l m h = ap (λ b. b && str_eq_ignore_ascii_case (word l) (word m)) (sym (eq-eqb s s refl)) ∙ h

first_apart : (s : ℕ) (l : Leaf) (ns : List (List ℕ)) (xs : List Introduction)
    → AllByRecursion (λ y. clashes (Has s l) y ≡ false) xs → Picked s ns xs
    → AllByRecursion (λ n. str_eq_ignore_ascii_case (word l) n ≡ false) ns
first_apart s l [] xs all h = tt
first_apart s l (n ∷ ns) xs all (mid, m, after, is, called, rest) =
    let parts = all_split (λ y. clashes (Has s l) y ≡ false) mid (Has s m ∷ after)
    (subst (AllByRecursion (λ y. clashes (Has s l) y ≡ false)) is all) in
    let apart : str_eq_ignore_ascii_case (word l) n ≡ false = ap (str_eq_ignore_ascii_case (word l)) (sym called)
    ∙ members_apart s l m parts.1.0 in
    (apart, first_apart s l ns after parts.1.1 rest)

pub picked_apart : (s : ℕ) (ns : List (List ℕ)) (xs : List Introduction) → IsDistinct clashes xs → Picked s ns xs
    → AreApart ns
unfolding IsDistinct
picked_apart s [] xs d h = tt
picked_apart s (n ∷ ns) xs d (mid, l, after, is, called, rest) =
    let parts = distinct_split clashes mid (Has s l ∷ after) (subst (IsDistinct clashes) is d) in
    let both = distinct_head clashes (Has s l) after parts.1 in (
      subst (λ w. AllByRecursion (λ m. str_eq_ignore_ascii_case w m ≡ false) ns) called
          (first_apart s l ns after both.0 rest),
      picked_apart s ns after both.1 rest,
    )

-- what holds of each introduction holds of those that are picked
pub picked_all : (P : Introduction → Type 0) (Q : List ℕ → Type 0) (s : ℕ) → ((l : Leaf) → P (Has s l) → Q (word l))
    → (ns : List (List ℕ)) (xs : List Introduction)
    → AllByRecursion P xs → Picked s ns xs → AllByRecursion Q ns
picked_all P Q s f [] xs all h = tt
picked_all P Q s f (n ∷ ns) xs all (mid, l, after, is, called, rest) =
    let parts = all_split P mid (Has s l ∷ after) (subst (AllByRecursion P) is all) in
    (subst Q called (f l parts.1.0), picked_all P Q s f ns after parts.1.1 rest)

-- ---- enumerators

abbrev pub stands_enumerator : ℕ → Leaf → Introduction
stands_enumerator s l = Stands s l Kinds.Enumerator

and_false : (a : Bool) → (a && true) ≡ a
and_false true = refl
and_false false = refl

enumerators_apart : (s : ℕ) (l m : Leaf) → clashes (stands_enumerator s l) (stands_enumerator s m) ≡ false
    → str_eq_ignore_ascii_case (word l) (word m) ≡ false
enumerators_apart s l m h =
    ap (λ b. b && str_eq_ignore_ascii_case (word l) (word m)) (sym (eq-eqb s s refl))
    ∙ sym (and_false (is_one_name s l s m)) ∙ h

first_stands : (s : ℕ) (l : Leaf) (ls : List Leaf)
    → AllByRecursion (λ y. clashes (stands_enumerator s l) y ≡ false) (map (stands_enumerator s) ls)
    → AllByRecursion (λ n. str_eq_ignore_ascii_case (word l) n ≡ false) (map word ls)
first_stands s l [] h = tt
first_stands s l (m ∷ ls) h = (enumerators_apart s l m h.0, first_stands s l ls h.1)

pub stands_apart : (s : ℕ) (ls : List Leaf) → IsDistinct clashes (map (stands_enumerator s) ls) → AreApart (map word ls)
unfolding IsDistinct
stands_apart s [] d = tt
stands_apart s (l ∷ ls) d = (first_stands s l ls d.0, stands_apart s ls d.1)

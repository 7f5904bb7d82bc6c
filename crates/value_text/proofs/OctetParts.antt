-- Octets among values, one by one.
use Rattle.std.proofs.Common.{◌≡◌, ℕ, zero, suc, ◌+◌, ◌<◌, ◌^◌, List, [], ◌∷◌, ◌++◌, map, take, get_or, length, replicate, refl, sym, ap, ap₂, ◌∙◌, append_assoc, add-one, pos, Bool, true, Vec, Global}
use Rattle.std.proofs.lemmas.List.{map-append, take_more}
use Rattle.std.proofs.lemmas.Bool.{lt-ltb}
use Rattle.std.specs.Prelude.{nat_lt, if◌then◌else◌}
use Rattle.type_graph.specs.Words.{AllBelow}
use Rattle.type_graph.specs.Value.{Tree, Items, Trees, NoTree, AndTree, count}
use Rattle.giop_types.specs.Fields.{number_tree, octet_trees, tagged_tree, tagged_trees}
use Rattle.reference_texts.specs.References.{owned_pairs}
use Rattle.idl_value.specs.declared.value.Value.{Value}
use Rattle.idl_value.specs.View.{tree_of, trees_of}
use Rattle.value_text.specs.Octets.{octet_of, octet_of_tree, octets_of}
use Rattle.value_text.specs.Printed.{long_of, with_long, with_profile, with_members}

-- the octets of values
pub octets_of-trees : (values : List Value) → octets_of (trees_of values)
    ≡ map (λ value. octet_of_tree (tree_of value)) values
octets_of-trees [] = refl
octets_of-trees (value ∷ values) = ap (λ octets. octet_of_tree (tree_of value) ∷ octets) (octets_of-trees values)

chosen : (n : ℕ) (b : Bool) → b ≡ true → (if b then n else 0) ≡ n
chosen n b e = ap (λ t. if t then n else 0) e

-- what is an octet, an unsigned long, counts as itself
pub octet_same : (n : ℕ) → n < 256 → octet_of (pos n) ≡ n
octet_same n below = chosen n (nat_lt n 256) (lt-ltb n 256 below)

pub long_same : (n : ℕ) → n < 2 ^ 32 → long_of (pos n) ≡ n
long_same n below = chosen n (nat_lt n (2 ^ 32)) (lt-ltb n (2 ^ 32) below)

pub octets_same : (octets : List ℕ) → AllBelow 256 octets → octets_of (octet_trees octets) ≡ octets
octets_same [] below = refl
octets_same (octet ∷ more) below = ap₂ (λ a l. a ∷ l) (octet_same octet below.0) (octets_same more below.1)

-- ---- what loops add

-- a value behind the others
abbrev pub with_last : Trees → Tree → Trees
with_last NoTree last = AndTree last NoTree
with_last (AndTree value values) last = AndTree value (with_last values last)

trees_more : (values : List Value) (value : Value)
    → trees_of (values ++ value ∷ []) ≡ with_last (trees_of values) (tree_of value)
trees_more [] value = refl
trees_more (other ∷ values) value = ap (AndTree (tree_of other)) (trees_more values value)

octets_more : (octets : List ℕ) (octet : ℕ) → octet_trees (octets ++ octet ∷ [])
    ≡ with_last (octet_trees octets) (number_tree octet)
octets_more [] octet = refl
octets_more (other ∷ octets) octet = ap (AndTree (number_tree other)) (octets_more octets octet)

tagged_more : (all : List (ℕ × List ℕ)) (one : ℕ × List ℕ)
    → tagged_trees (all ++ one ∷ []) ≡ with_last (tagged_trees all) (tagged_tree one)
tagged_more [] one = refl
tagged_more (other ∷ all) one = ap (AndTree (tagged_tree other)) (tagged_more all one)

pub octet_pushed : (values new : List Value) (value : Value) (octets : List ℕ) (i : ℕ) → i < length octets
    → new ≡ values ++ value ∷ []
    → trees_of values ≡ octet_trees (take i octets) → tree_of value ≡ number_tree (get_or octets i 0)
    → trees_of new ≡ octet_trees (take (i + 1) octets)
octet_pushed values new value octets i within pushed before is =
    ap trees_of pushed ∙ trees_more values value ∙ ap₂ with_last before is
    ∙ sym (octets_more (take i octets) (get_or octets i 0))
    ∙ ap octet_trees (sym (take_more octets i 0 within))

owned_more : (xs : List (ℕ × Vec ℕ Global)) (i : ℕ) (one : ℕ × Vec ℕ Global) → i < length xs → one ≡ get_or xs i one
    → owned_pairs (take (i + 1) xs) ≡ owned_pairs (take i xs) ++ (one.0, one.1.items) ∷ []
owned_more xs i one within is =
    ap owned_pairs (take_more xs i one within ∙ ap (λ (y : ℕ × Vec ℕ Global). take i xs ++ y ∷ []) (sym is))
    ∙ map-append (λ (o : ℕ × Vec ℕ Global). (o.0, o.1.items)) (take i xs) (one ∷ [])

pub tagged_pushed : (values new : List Value) (value : Value) (xs : List (ℕ × Vec ℕ Global)) (i : ℕ)
    (one : ℕ × Vec ℕ Global)
    → i < length xs → one ≡ get_or xs i one → new ≡ values ++ value ∷ []
    → trees_of values ≡ tagged_trees (owned_pairs (take i xs))
    → tree_of value ≡ tagged_tree (one.0, one.1.items) → trees_of new ≡ tagged_trees (owned_pairs (take (i + 1) xs))
tagged_pushed values new value xs i one within here pushed before is =
    ap trees_of pushed ∙ trees_more values value ∙ ap₂ with_last before is
    ∙ sym (tagged_more (owned_pairs (take i xs)) (one.0, one.1.items))
    ∙ ap tagged_trees (sym (owned_more xs i one within here))

-- a zero more
pub zero_more : (front now new : List ℕ) (i : ℕ) → now ≡ front ++ replicate i 0 → new ≡ now ++ 0 ∷ []
    → new ≡ front ++ replicate (i + 1) 0
zero_more front now new i before pushed =
    let one : List ℕ = 0 ∷ [] in
    pushed ∙ ap (λ (l : List ℕ). l ++ one) before ∙ append_assoc front (replicate i zero) one
    ∙ ap (λ (l : List ℕ). front ++ l) (one_more i zero)
  where
    one_more : (n m : ℕ) → replicate n m ++ m ∷ [] ≡ replicate (n + 1) m
    one_more zero m = refl
    one_more (suc n) m = ap (λ (l : List ℕ). m ∷ l) (one_more n m)
        ∙ sym (ap (λ k. replicate k m) (add-one (suc n)) ∙ ap (λ k. m ∷ replicate k m) (sym (add-one n)))

-- ---- what isn't of two parts

pub other_profile : (front : List ℕ) (values : List Value) → (length values ≡ 2 → ⊥)
    → with_profile front (Items (trees_of values)) ≡ front
other_profile front [] long = refl
other_profile front (a ∷ []) long = refl
other_profile front (a ∷ b ∷ []) long = absurd (long refl)
other_profile front (a ∷ b ∷ c ∷ values) long = refl

pub other_members : (front : List ℕ) (values : List Value) → (length values ≡ 2 → ⊥)
    → with_members front (trees_of values) ≡ front
other_members front [] long = refl
other_members front (a ∷ []) long = refl
other_members front (a ∷ b ∷ []) long = absurd (long refl)
other_members front (a ∷ b ∷ c ∷ values) long = refl

pub count_trees : (values : List Value) → count (trees_of values) ≡ length values
count_trees [] = refl
count_trees (value ∷ values) = ap suc (count_trees values)

-- behind as many
pub counted_long : (front now : List ℕ) (n : ℕ) (values : List Value) → now ≡ with_long front n
    → n ≡ long_of (pos (length values))
    → now ≡ with_long front (long_of (pos (count (trees_of values))))
counted_long front now n values long is =
    long ∙ ap (with_long front) (is ∙ ap (λ k. long_of (pos k)) (sym (count_trees values)))

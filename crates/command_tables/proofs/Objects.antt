-- Words for objects.
use Rattle.std.proofs.Common.{◌≡◌, ◌≢◌, ℕ, zero, suc, ◌<◌, List, [], ◌∷◌, ◌++◌, length, drop, slice_get, slice_index, Some, None, true, refl, sym, ap₂, ◌∙◌, arith}
use Rattle.std.specs.Borrow.{Bor}
use Rattle.std.proofs.lemmas.Str.Pattern.{IsSplitOnceResult, split_after, split_parts}
use Rattle.std.specs.Str.{bytes_eq}
use Rattle.type_model.specs.declared.signatures.Interface.{Interface}
use Rattle.command_tables.specs.References.{IsObject, interface_named}

pub object_found : (word : List ℕ) (key name : Bor (List ℕ)) → IsSplitOnceResult 61 word (Some (key, name))
    → 0 < length key.now → IsObject word key.now name.now
object_found word key name h some =
    let parts = split_parts 61 word (Some (key, name)) h (omega arith) in
    record { word_is = parts.0; first = parts.1; some = some }

pub no_object : (word : List ℕ) → IsSplitOnceResult 61 word None → (key name : List ℕ) → IsObject word key name → ⊥
no_object word h key name o = split_after 61 word key name None h (omega arith) o.word_is o.first

cut_first : (k n l m : List ℕ) → k ++ 61 ∷ n ≡ l ++ 61 ∷ m → ((i : ℕ) → i < length k → slice_index k i ≢ 61)
    → ((i : ℕ) → i < length l → slice_index l i ≢ 61) → (k ≡ l) × (n ≡ m)
cut_first [] n [] m e f g =
    let rest : n ≡ m = cc in
    (cc, rest)
cut_first [] n (y ∷ l) m e f g =
    let here : y ≡ 61 = cc in
    absurd (g 0 (omega arith) here)
cut_first (x ∷ k) n [] m e f g =
    let here : x ≡ 61 = cc in
    absurd (f 0 (omega arith) here)
cut_first (x ∷ k) n (y ∷ l) m e f g =
    let here : x ≡ y = cc in
    let more : k ++ 61 ∷ n ≡ l ++ 61 ∷ m = cc in
    let rest = cut_first k n l m more (λ i within. f (suc i) (omega (arith, within)))
    (λ i within. g (suc i) (omega (arith, within))) in
    (ap₂ (λ a b. a ∷ b) here rest.0, rest.1)

-- a word names one object
pub object_once : (word key name k n : List ℕ) → IsObject word key name → IsObject word k n → (key ≡ k) × (name ≡ n)
object_once word key name k n a b = cut_first key name k n (sym a.word_is ∙ b.word_is) a.first b.first

-- the interface at a place has the name, and none before
pub first_place : (name : List ℕ) (interfaces : List Interface) (place : ℕ) (interface : Interface)
    → slice_get interfaces place ≡ Some interface → bytes_eq interface.name name ≡ true
    → interface_named name (drop place interfaces) ≡ slice_get interfaces place
first_place name [] place interface e same = cc
first_place name (x ∷ more) zero interface e same =
    let one : x ≡ interface = cc in
    let named : bytes_eq x.name name ≡ true = cc in
    rw (named) refl
first_place name (x ∷ more) (suc k) interface e same = first_place name more k interface e same

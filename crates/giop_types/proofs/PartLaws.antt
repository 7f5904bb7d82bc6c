-- A tape begins with at most one part of a kind.
use Rattle.std.proofs.Common.{◌≡◌, ℕ, ◌+◌, ◌^◌, ◌<◌, pos, List, [], ◌∷◌, ◌++◌, length, refl, sym, ap, ap₂, ◌∙◌, append-nil, append_assoc, length-append, subst, arith}
use Rattle.std.specs.List.{AllByRecursion}
use Rattle.std.proofs.lemmas.List.{map-append}
use Rattle.type_graph.specs.declared.width.Width.TheVariants.{Four}
use Rattle.type_graph.specs.declared.width.Order.TheVariants.{Big}
use Rattle.type_graph.specs.Words.{word}
use Rattle.type_graph.proofs.WordLaws.{plain_word_same, all_append}
use Rattle.type_graph.proofs.OneTape.{cut_same}
use Rattle.giop_types.specs.declared.tapes.reading.Tagged.{Tagged}
use Rattle.giop_types.specs.TapeParts.{counted, IsCounted, tagged, IsTagged, tagged_each, tagged_list, AreTagged, AreFront, pair_of, pairs_of}

-- a number
pub word_front : (m n : ℕ) (r s : List ℕ) → m < 2 ^ 32 → n < 2 ^ 32
    → word Big Four (pos m) ++ r ≡ word Big Four (pos n) ++ s
    → (m ≡ n) × (r ≡ s)
word_front m n r s hm hn e =
    let cut = cut_same (word Big Four (pos m)) (word Big Four (pos n)) r s refl e in
    (plain_word_same Big Four m n hm hn cut.0, cut.1)

-- counted octets
pub counted_front : (a b r s : List ℕ) → IsCounted a → IsCounted b → counted a ++ r ≡ counted b ++ s → (a ≡ b) × (r ≡ s)
counted_front a b r s ha hb e =
    let moved = sym (append_assoc (word Big Four (pos (length a))) a r) ∙ e
    ∙ append_assoc (word Big Four (pos (length b))) b s in
    let first = word_front (length a) (length b) (a ++ r) (b ++ s) ha hb moved in
    cut_same a b r s first.0 first.1

-- a tag with its octets
pub tagged_front : (a b : ℕ × List ℕ) (r s : List ℕ) → IsTagged a → IsTagged b → tagged a ++ r ≡ tagged b ++ s
    → (a ≡ b) × (r ≡ s)
tagged_front a b r s ha hb e =
    let moved = sym (append_assoc (word Big Four (pos a.0)) (counted a.1) r) ∙ e
    ∙ append_assoc (word Big Four (pos b.0)) (counted b.1) s in
    let first = word_front a.0 b.0 (counted a.1 ++ r) (counted b.1 ++ s) ha.tag hb.tag moved in
    let more = counted_front a.1 b.1 r s ha.octets hb.octets first.1 in
    (ap₂ (λ (x : ℕ) (y : List ℕ). (x, y)) first.0 more.0, more.1)

-- so many of them
pub tagged_each_front : (xs ys : List (ℕ × List ℕ)) (r s : List ℕ) → length xs ≡ length ys → AllByRecursion IsTagged xs
    → AllByRecursion IsTagged ys → tagged_each xs ++ r ≡ tagged_each ys ++ s → (xs ≡ ys) × (r ≡ s)
tagged_each_front [] [] r s long hx hy e = (refl, e)
tagged_each_front [] (y ∷ ys) r s long hx hy e = absurd (omega (arith, long))
tagged_each_front (x ∷ xs) [] r s long hx hy e = absurd (omega (arith, long))
tagged_each_front (x ∷ xs) (y ∷ ys) r s long hx hy e =
    let moved = sym (append_assoc (tagged x) (tagged_each xs) r) ∙ e ∙ append_assoc (tagged y) (tagged_each ys) s in
    let first = tagged_front x y (tagged_each xs ++ r) (tagged_each ys ++ s) hx.0 hy.0 moved in
    let more = tagged_each_front xs ys r s (omega (arith, long)) hx.1 hy.1 first.1 in
    (ap₂ (λ (z : ℕ × List ℕ) (zs : List (ℕ × List ℕ)). z ∷ zs) first.0 more.0, more.1)

-- behind their count
pub tagged_list_front : (xs ys : List (ℕ × List ℕ)) (r s : List ℕ) → AreTagged xs → AreTagged ys
    → tagged_list xs ++ r ≡ tagged_list ys ++ s → (xs ≡ ys) × (r ≡ s)
tagged_list_front xs ys r s hx hy e =
    let moved = sym (append_assoc (word Big Four (pos (length xs))) (tagged_each xs) r) ∙ e
    ∙ append_assoc (word Big Four (pos (length ys))) (tagged_each ys) s in
    let first = word_front (length xs) (length ys) (tagged_each xs ++ r) (tagged_each ys ++ s) hx.short hy.short moved
    in
    tagged_each_front xs ys r s first.0 hx.each hy.each first.1

-- ---- the loop that reads them

pub no_front : (tape : List ℕ) → AreFront 0 tape [] tape
no_front tape = record { many = refl; each = tt; front = refl }

-- one more
pub tagged_each-append : (xs ys : List (ℕ × List ℕ)) → tagged_each (xs ++ ys) ≡ tagged_each xs ++ tagged_each ys
tagged_each-append [] ys = refl
tagged_each-append (x ∷ xs) ys = ap (λ l. tagged x ++ l) (tagged_each-append xs ys)
    ∙ sym (append_assoc (tagged x) (tagged_each xs) (tagged_each ys))

pub front_more : (count : ℕ) (tape : List ℕ) (xs : List Tagged) (one : Tagged) (rest more : List ℕ)
    → AreFront count tape (pairs_of xs) rest → IsTagged (pair_of one) → rest ≡ tagged (pair_of one) ++ more
    → AreFront (count + 1) tape (pairs_of (xs ++ one ∷ [])) more
front_more count tape xs one rest more h is e =
    let P : List (ℕ × List ℕ) → Type 0 = λ l. AreFront (count + 1) tape l more in
    subst P (sym (map-append pair_of xs (one ∷ []))) (record {
      many = length-append (pairs_of xs) (pair_of one ∷ []) ∙ ap (λ n. n + 1) h.many;
      each = all_append IsTagged (pairs_of xs) (pair_of one ∷ []) h.each (is, tt);
      front = h.front ∙ ap (λ l. tagged_each (pairs_of xs) ++ l)
          (e ∙ ap (λ l. l ++ more) (sym (append-nil (tagged (pair_of one)))))
          ∙ sym (append_assoc (tagged_each (pairs_of xs)) (tagged_each (pair_of one ∷ [])) more)
          ∙ ap (λ l. l ++ more) (sym (tagged_each-append (pairs_of xs) (pair_of one ∷ [])));
    })

-- behind fewer of them stands the next
pub next_there : (xs ys : List (ℕ × List ℕ)) (r s : List ℕ) → length xs < length ys → AllByRecursion IsTagged xs
    → AllByRecursion IsTagged ys → tagged_each xs ++ r ≡ tagged_each ys ++ s
    → ((one : ℕ × List ℕ) (rest : List ℕ) → IsTagged one → r ≡ tagged one ++ rest → ⊥) → ⊥
next_there xs [] r s less hx hy e none = omega (arith, less)
next_there [] (y ∷ ys) r s less hx hy e none =
    none y (tagged_each ys ++ s) hy.0 (e ∙ append_assoc (tagged y) (tagged_each ys) s)
next_there (x ∷ xs) (y ∷ ys) r s less hx hy e none =
    let moved = sym (append_assoc (tagged x) (tagged_each xs) r) ∙ e ∙ append_assoc (tagged y) (tagged_each ys) s in
    let first = tagged_front x y (tagged_each xs ++ r) (tagged_each ys ++ s) hx.0 hy.0 moved in
    next_there xs ys r s (omega (arith, less)) hx.1 hy.1 first.1 none

pub no_next : (i count : ℕ) (tape : List ℕ) (xs : List (ℕ × List ℕ)) (r : List ℕ) → i < count → AreFront i tape xs r
    → ((one : ℕ × List ℕ) (rest : List ℕ) → IsTagged one → r ≡ tagged one ++ rest → ⊥)
    → (ys : List (ℕ × List ℕ)) (s : List ℕ) → AreFront count tape ys s → ⊥
no_next i count tape xs r less h none ys s k =
    next_there xs ys r s (omega (arith, less, h.many, k.many)) h.each k.each (sym h.front ∙ k.front) none

-- The mask of a vector is empty exactly where none of its lanes passes a test; a run is looked through chunk by chunk.
use Rattle.std.proofs.Common.{◌≡◌, ℕ, ◌+◌, ◌*◌, ◌%◌, ◌^◌, nat_eq, nat_lt, ltb, lt-ltb, ltb-false, Bool, true, false, not, cond, ◌||◌, List, [], ◌∷◌, map, length, take, drop, replicate, w8, zero, suc, ne_eqb, take-append-drop, refl, sym, ap, ap₂, ◌∙◌, ◌≤◌, ◌<◌, ◌/◌, arith}
use Rattle.std.specs.List.{list_any}
use Rattle.std.proofs.lemmas.Bool.{eqb-true, eq-eqb, ltb-true}
use Rattle.std.proofs.lemmas.List.Folds.{list_any-append}
use Rattle.std.proofs.lemmas.Simd.{tops_compared, zip2_splat_left, mask_l-mod, length-zip2}
use Rattle.std.proofs.lemmas.List.{length-map, drop-drop, take-map}
use Rattle.std.proofs.Math.Seq.{take-add}
use Rattle.std.proofs.lemmas.Nat.{mod-mul-add, one_shl, pow_pos}
use Rattle.std.proofs.Math.Nat.{mod-add-div', mod-lt, mod-one, two-pow-succ, zero-mod}
use lib.Lanes.{zip2, mask_l, sel_l, top}

add-zero-left : (n : ℕ) → 0 + n ≡ n
add-zero-left n = omega arith

double_is_zero : (m : ℕ) → nat_eq (2 * m) 0 ≡ nat_eq m 0
double_is_zero zero = refl
double_is_zero (suc m) = ne_eqb (2 * suc m) 0 (λ e. absurd (omega (arith, e)))
    ∙ sym (ne_eqb (suc m) 0 (λ e. absurd (omega (arith, e))))

from_head : (b : Bool) (m : ℕ) (rest : Bool) → not (nat_eq m 0) ≡ rest
    → not (nat_eq (cond b 1 0 + 2 * m) 0) ≡ (b || rest)
from_head true m rest h = ap not (ne_eqb (1 + 2 * m) 0 (λ e. absurd (omega (arith, e))))
from_head false m rest h = ap (λ n. not (nat_eq n 0)) (add-zero-left (2 * m)) ∙ ap not (double_is_zero m) ∙ h

pub any_from_mask : (p : ℕ → Bool) (xs : List ℕ) → not (nat_eq (mask_l (map p xs)) 0) ≡ list_any p xs
any_from_mask p [] = refl
any_from_mask p (x ∷ xs) = from_head (p x) (mask_l (map p xs)) (list_any p xs) (any_from_mask p xs)

-- the mask of a comparison whose left side is a splat
pub mask_of_splat_left : (t : ℕ → ℕ → Bool) (y : ℕ) (xs : List ℕ) → length xs ≡ 32
    → mask_l (map (top 7) (zip2 (λ a b. cond (t a b) 255 0) (replicate 32 y) xs)) % 2 ^ 64 ≡ mask_l (map (t y) xs)
mask_of_splat_left t y xs long =
    ap (λ ms. mask_l ms % 2 ^ 64) (tops_compared w8 t (replicate 32 y) xs ∙ zip2_splat_left t y 32 xs long)
    ∙ mask_l-mod (map (t y) xs) 64 (omega (arith, length-map xs (t y), long))

-- the octets from a place on: those of a chunk, and those behind it
parts : (p : ℕ → Bool) (n m : ℕ) (xs : List ℕ)
    → list_any p (drop n xs) ≡ (list_any p (take m (drop n xs)) || list_any p (drop (n + m) xs))
parts p n m xs =
    ap (list_any p) (sym (take-append-drop m (drop n xs))) ∙ list_any-append p (take m (drop n xs)) (drop m (drop n xs))
    ∙ ap (λ ys. list_any p (take m (drop n xs)) || list_any p ys) (drop-drop m n xs)

-- where none of a chunk is sought, the answer is that of the octets behind it
pub behind_chunk : (p : ℕ → Bool) (n m : ℕ) (xs : List ℕ) → list_any p (take m (drop n xs)) ≡ false
    → list_any p (drop n xs) ≡ list_any p xs
    → list_any p (drop (n + m) xs) ≡ list_any p xs
behind_chunk p n m xs none same = sym (parts p n m xs ∙ ap (λ b. b || list_any p (drop (n + m) xs)) none) ∙ same

-- one that is sought in a chunk is one of the run
pub in_chunk : (p : ℕ → Bool) (n m : ℕ) (xs : List ℕ) → list_any p (take m (drop n xs)) ≡ true
    → list_any p (drop n xs) ≡ list_any p xs
    → list_any p xs ≡ true
in_chunk p n m xs some same = sym same ∙ parts p n m xs ∙ ap (λ b. b || list_any p (drop (n + m) xs)) some

shuffled : (a b c d : Bool) → ((a || b) || (c || d)) ≡ ((a || c) || (b || d))
shuffled true b c d = refl
shuffled false true true d = refl
shuffled false true false d = refl
shuffled false false true d = refl
shuffled false false false d = refl

-- what joins two is sought where one of them is
pub either_lane : (p : ℕ → Bool) (f : ℕ → ℕ → ℕ) → ((x y : ℕ) → p (f x y) ≡ (p x || p y)) → (xs ys : List ℕ)
    → length xs ≡ length ys
    → list_any p (zip2 f xs ys) ≡ (list_any p xs || list_any p ys)
either_lane p f each [] [] long = refl
either_lane p f each [] (y ∷ ys) long = absurd (omega (arith, long))
either_lane p f each (x ∷ xs) [] long = absurd (omega (arith, long))
either_lane p f each (x ∷ xs) (y ∷ ys) long =
    ap₂ (λ (a b : Bool). a || b) (each x y) (either_lane p f each xs ys (omega (arith, long)))
    ∙ shuffled (p x) (p y) (list_any p xs) (list_any p ys)

-- the lesser of each two lanes, and the greater
least : (xs ys : List ℕ) → sel_l (zip2 ltb xs ys) xs ys ≡ zip2 (λ x y. cond (ltb x y) x y) xs ys
least [] ys = refl
least (x ∷ xs) [] = refl
least (x ∷ xs) (y ∷ ys) = ap (λ (zs : List ℕ). cond (ltb x y) x y ∷ zs) (least xs ys)

greatest : (xs ys : List ℕ) → sel_l (zip2 ltb xs ys) ys xs ≡ zip2 (λ x y. cond (ltb x y) y x) xs ys
greatest [] ys = refl
greatest (x ∷ xs) [] = refl
greatest (x ∷ xs) (y ∷ ys) = ap (λ (zs : List ℕ). cond (ltb x y) y x ∷ zs) (greatest xs ys)

-- as they are computed
compared : (f : List Bool → List ℕ) (xs ys : List ℕ) → f (map (top 7) (zip2 (λ a b. cond (ltb a b) 255 0) xs ys))
    ≡ f (zip2 ltb xs ys)
compared f xs ys = ap f (tops_compared w8 ltb xs ys)

pub length-least : (xs ys : List ℕ) → length xs ≡ length ys
    → length (sel_l (map (top 7) (zip2 (λ a b. cond (ltb a b) 255 0) xs ys)) xs ys) ≡ length xs
length-least xs ys long = ap length (compared (λ ms. sel_l ms xs ys) xs ys ∙ least xs ys)
    ∙ length-zip2 (λ x y. cond (ltb x y) x y) xs ys long

pub length-greatest : (xs ys : List ℕ) → length xs ≡ length ys
    → length (sel_l (map (top 7) (zip2 (λ a b. cond (ltb a b) 255 0) xs ys)) ys xs) ≡ length xs
length-greatest xs ys long = ap length (compared (λ ms. sel_l ms ys xs) xs ys ∙ greatest xs ys)
    ∙ length-zip2 (λ x y. cond (ltb x y) y x) xs ys long

-- the first of two tests says what either does, where it holds if the second does
either_first : (a b : Bool) → (b ≡ true → a ≡ true) → a ≡ (a || b)
either_first true b h = refl
either_first false true h = h refl
either_first false false h = refl

either_second : (a b : Bool) → (a ≡ true → b ≡ true) → b ≡ (a || b)
either_second true b h = h refl
either_second false b h = refl

zero_of_two : (x y : ℕ) (b : Bool) → ltb x y ≡ b → nat_eq (cond b x y) 0 ≡ (nat_eq x 0 || nat_eq y 0)
zero_of_two x y true less =
    either_first (nat_eq x 0) (nat_eq y 0) (λ e. absurd (omega (arith, ltb-true x y less, eqb-true y 0 e)))
zero_of_two x y false enough =
    either_second (nat_eq x 0) (nat_eq y 0) (λ e. eq-eqb y 0 (omega (arith, ltb-false x y enough, eqb-true x 0 e)))

no_boolean_of_two : (x y : ℕ) (b : Bool) → ltb x y ≡ b → nat_lt 1 (cond b y x) ≡ (nat_lt 1 x || nat_lt 1 y)
no_boolean_of_two x y true less =
    either_second (nat_lt 1 x) (nat_lt 1 y) (λ e. lt-ltb 1 y (omega (arith, ltb-true x y less, ltb-true 1 x e)))
no_boolean_of_two x y false enough =
    either_first (nat_lt 1 x) (nat_lt 1 y) (λ e. lt-ltb 1 x (omega (arith, ltb-false x y enough, ltb-true 1 y e)))

pub zero_in_least : (xs ys : List ℕ) → length xs ≡ length ys
    → list_any (λ octet. nat_eq octet 0) (sel_l (map (top 7) (zip2 (λ a b. cond (ltb a b) 255 0) xs ys)) xs ys)
    ≡ (list_any (λ octet. nat_eq octet 0) xs || list_any (λ octet. nat_eq octet 0) ys)
zero_in_least xs ys long =
    let zero_in : ℕ → Bool = λ octet. nat_eq octet 0 in
    ap (list_any zero_in) (compared (λ ms. sel_l ms xs ys) xs ys ∙ least xs ys)
    ∙ either_lane zero_in (λ x y. cond (ltb x y) x y) (λ x y. zero_of_two x y (ltb x y) refl) xs ys long

pub no_boolean_in_greatest : (xs ys : List ℕ) → length xs ≡ length ys
    → list_any (nat_lt 1) (sel_l (map (top 7) (zip2 (λ a b. cond (ltb a b) 255 0) xs ys)) ys xs)
    ≡ (list_any (nat_lt 1) xs || list_any (nat_lt 1) ys)
no_boolean_in_greatest xs ys long =
    ap (list_any (nat_lt 1)) (compared (λ ms. sel_l ms ys xs) xs ys ∙ greatest xs ys)
    ∙ either_lane (nat_lt 1) (λ x y. cond (ltb x y) y x) (λ x y. no_boolean_of_two x y (ltb x y) refl) xs ys long

-- two runs of octets one behind the other, of which each was looked at
pub both_parts : (p : ℕ → Bool) (at n m : ℕ) (xs : List ℕ) (a b joined : Bool) → a ≡ list_any p (take n (drop at xs))
    → b ≡ list_any p (take m (drop (at + n) xs))
    → joined ≡ (a || b) → joined ≡ list_any p (take (n + m) (drop at xs))
both_parts p at n m xs a b joined first second is =
    is ∙ ap₂ (λ (a b : Bool). a || b) first second
    ∙ ap (λ (ys : List ℕ). list_any p (take n (drop at xs)) || list_any p (take m ys)) (sym (drop-drop n at xs))
    ∙ sym (ap (list_any p) (take-add n m (drop at xs))
    ∙ list_any-append p (take n (drop at xs)) (take m (drop n (drop at xs))))

-- the lowest bits of a number are its lowest bit and those above it
low_bits : (b m k q : ℕ) → b ≤ 1 → m % k + q * k ≡ m → m % k < k → (b + 2 * m) % (2 * k) ≡ b + 2 * (m % k)
low_bits b m k q small whole lt =
    let wide : q * (2 * k) ≡ 2 * (q * k) = omega arith in
    ap (λ n. n % (2 * k)) (omega (arith, whole, wide))
    ∙ mod-mul-add q (2 * k) (b + 2 * (m % k)) (omega (arith, lt, small))

twice : (k m : ℕ) → m ≡ k + k → m ≡ 2 * k
twice k m e = omega (arith, e)

head_bit : (b : Bool) → cond b 1 0 ≤ 1
head_bit true = omega arith
head_bit false = omega arith

-- the mask of the first lanes
mask_of_first : (n : ℕ) (bs : List Bool) → mask_l bs % 2 ^ n ≡ mask_l (take n bs)
mask_of_first zero bs = mod-one (mask_l bs)
mask_of_first (suc n) [] = zero-mod (2 ^ suc n)
mask_of_first (suc n) (b ∷ bs) =
    ap (λ k. (cond b 1 0 + 2 * mask_l bs) % k) (twice (2 ^ n) (2 ^ suc n) (two-pow-succ n))
    ∙ low_bits (cond b 1 0) (mask_l bs) (2 ^ n) (mask_l bs / 2 ^ n) (head_bit b) (mod-add-div' (mask_l bs) (2 ^ n))
    (mod-lt (mask_l bs) (pow_pos n))
    ∙ ap (λ m. cond b 1 0 + 2 * m) (mask_of_first n bs)

-- whether one of the first lanes passes a test, by the mask of all
pub any_from_first : (p : ℕ → Bool) (n m k : ℕ) (xs : List ℕ) → n ≤ 32 → m ≡ mask_l (map p xs)
    → k ≡ (1 * 2 ^ n) % 2 ^ 64
    → not (nat_eq (m % k) 0) ≡ list_any p (take n xs)
any_from_first p n m k xs within mask power =
    ap₂ (λ m k. not (nat_eq (m % k) 0)) mask (power ∙ one_shl n 64 (omega (arith, within)))
    ∙ ap (λ m. not (nat_eq m 0)) (mask_of_first n (map p xs) ∙ ap mask_l (take-map p n xs))
    ∙ any_from_mask p (take n xs)

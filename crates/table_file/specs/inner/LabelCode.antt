-- What is spelled at the front of octets is one label alone.
use Rattle.std.proofs.Common.{◌≡◌, ℕ, zero, suc, ◌<◌, ◌+◌, ◌*◌, ◌/◌, ◌%◌, ◌^◌, ℤ, pos, negsuc, List, ◌∷◌, ◌++◌, length, Some, refl, sym, ap, ap₂, ◌∙◌, nat_lt, mod-eq_of_lt, arith}
use Rattle.std.proofs.lemmas.Bool.{ltb-true}
use Rattle.std.proofs.lemmas.Nat.{mod-pow-add, pow-add}
use Rattle.std.specs.Int.{byte_at, bytes_high_first}
use Rattle.type_graph.specs.declared.width.Order.TheVariants.{Big}
use Rattle.type_graph.specs.Words.{octets_of, twos_complement}
use Rattle.table_file.specs.Octets.{spelled_label, spelled_word}
use Rattle.table_file.specs.Spelling.{spelled_arm}
use Rattle.table_file.specs.inner.Joins.{passed}
use Rattle.table_file.specs.inner.Codes.{IsCode, fixed_code, pair_code, word_code}

-- the patterns of so many octets
pow_octets : (k : ℕ) → 256 ^ k ≡ 2 ^ (8 * k)
pow_octets zero = refl
pow_octets (suc k) =
    let more : 8 * suc k ≡ 8 + 8 * k = omega arith in
    let next : 256 ^ suc k ≡ 256 * 256 ^ k = omega arith in
    next ∙ ap (λ p. 256 * p) (pow_octets k) ∙ sym (pow-add 2 8 (8 * k)) ∙ ap (λ j. 2 ^ j) (sym more)

-- an octet of a number
byte_high : (k n : ℕ) → byte_at k n ≡ n / 2 ^ (8 * k) % 2 ^ 8
byte_high zero n = omega arith
byte_high (suc k) n = ap (λ p. n / p % 256) (pow_octets (suc k))

-- octets say a number up to the patterns of so many
low_same : (k m n : ℕ) → bytes_high_first k m ≡ bytes_high_first k n → m % 2 ^ (8 * k) ≡ n % 2 ^ (8 * k)
low_same zero m n e = omega arith
low_same (suc k) m n e =
    let top : byte_at k m ≡ byte_at k n = cc in
    let low = low_same k m n (cc) in
    let more : 8 * suc k ≡ 8 + 8 * k = omega arith in
    let tops : m / 2 ^ (8 * k) % 2 ^ 8 ≡ n / 2 ^ (8 * k) % 2 ^ 8 = sym (byte_high k m) ∙ top ∙ byte_high k n in
    ap (λ j. m % 2 ^ j) more ∙ mod-pow-add m 8 (8 * k) ∙ ap₂ (λ a b. a * 2 ^ (8 * k) + b) tops low
    ∙ sym (mod-pow-add n 8 (8 * k)) ∙ ap (λ j. n % 2 ^ j) (sym more)

-- the octets of two halves
pub halves : (high low : ℕ) → high < 2 ^ 64 → low < 2 ^ 64
    → bytes_high_first 16 (high * 2 ^ 64 + low) ≡ bytes_high_first 8 high ++ bytes_high_first 8 low
halves high low h l =
    let begin = λ (a b : ℕ) (xs ys : List ℕ) (e : a ≡ b) (es : xs ≡ ys). ap₂ (λ x l. x ∷ l) e es in
    begin _ _ _ _ (omega arith) (begin _ _ _ _ (omega arith) (begin _ _ _ _ (omega arith) (begin _ _ _ _ (omega arith)
    (begin _ _ _ _ (omega arith) (begin _ _ _ _ (omega arith) (begin _ _ _ _ (omega arith) (begin _ _ _ _ (omega arith)
    (begin _ _ _ _ (omega arith) (begin _ _ _ _ (omega arith) (begin _ _ _ _ (omega arith) (begin _ _ _ _ (omega arith)
    (begin _ _ _ _ (omega arith)
    (begin _ _ _ _ (omega arith) (begin _ _ _ _ (omega arith) (begin _ _ _ _ (omega arith) refl)))))))))))))))

small : (a : ℤ) (s : List ℕ) → spelled_label a ≡ Some s → (twos_complement 16 a < 2 ^ 128) × (octets_of Big 16 a ≡ s)
small (pos n) s e = let p = passed (nat_lt n (2 ^ 127)) (octets_of Big 16 (pos n)) s e in let h =
    ltb-true n (2 ^ 127) p.0 in (omega arith, p.1)
small (negsuc n) s e = let p = passed (nat_lt n (2 ^ 127)) (octets_of Big 16 (negsuc n)) s e in (omega arith, p.1)

-- two's complement tells numbers apart
apart : (a b : ℤ) (s : List ℕ) → spelled_label a ≡ Some s → spelled_label b ≡ Some s
    → twos_complement 16 a ≡ twos_complement 16 b → a ≡ b
apart (pos m) (pos n) s ea eb e = ap pos e
apart (pos m) (negsuc n) s ea eb e =
    let p = ltb-true m (2 ^ 127) (passed (nat_lt m (2 ^ 127)) (octets_of Big 16 (pos m)) s ea).0 in
    let q = ltb-true n (2 ^ 127) (passed (nat_lt n (2 ^ 127)) (octets_of Big 16 (negsuc n)) s eb).0 in
    absurd (omega arith)
apart (negsuc m) (pos n) s ea eb e =
    let p = ltb-true m (2 ^ 127) (passed (nat_lt m (2 ^ 127)) (octets_of Big 16 (negsuc m)) s ea).0 in
    let q = ltb-true n (2 ^ 127) (passed (nat_lt n (2 ^ 127)) (octets_of Big 16 (pos n)) s eb).0 in
    absurd (omega arith)
apart (negsuc m) (negsuc n) s ea eb e =
    let p = ltb-true m (2 ^ 127) (passed (nat_lt m (2 ^ 127)) (octets_of Big 16 (negsuc m)) s ea).0 in
    let q = ltb-true n (2 ^ 127) (passed (nat_lt n (2 ^ 127)) (octets_of Big 16 (negsuc n)) s eb).0 in
    let same : m ≡ n = omega arith in
    ap negsuc same

pub label_long : (n : ℤ) (s : List ℕ) → spelled_label n ≡ Some s → length s ≡ 16
label_long n s e = ap length (sym (small n s e).1)

pub label_code : IsCode spelled_label
label_code = fixed_code spelled_label 16 (omega arith)
    label_long
    (λ a b s ea eb.
    let p = small a s ea in
    let q = small b s eb in
    let same : twos_complement 16 a % 2 ^ 128 ≡ twos_complement 16 b % 2 ^ 128 =
    low_same 16 (twos_complement 16 a) (twos_complement 16 b) (p.1 ∙ sym q.1) in
    apart a b s ea eb (sym (mod-eq_of_lt p.0) ∙ same ∙ mod-eq_of_lt q.0))

pub arm_code : IsCode spelled_arm
arm_code = pair_code spelled_label spelled_word label_code word_code

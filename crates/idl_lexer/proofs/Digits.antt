-- Digits of a radix are ASCII.
use Rattle.std.proofs.Common.{◌≡◌, ◌∙◌, ℕ, ◌+◌, ◌<◌, ◌≤◌, Bool, true, false, cond, List, [], ◌∷◌, zero, suc, length, take, min, ap, sym, refl, arith}
use Rattle.std.specs.Char.{digit_value, is_ascii_hexdigit}
use Rattle.std.specs.Str.{IsAscii}
use Rattle.std.specs.Str.Parse.{AllDigits, IsNumeral, digits_value}
use Rattle.idl_lexer.specs.Octets.{is_octal, run}
use Rattle.idl_lexer.specs.Literals.{IsEscapeDigits}
use Rattle.std.proofs.lemmas.Bool.Decides.{nat_tests}

digit_ascii : (c radix : ℕ) → radix ≤ 36 → digit_value c < radix → c < 128
digit_ascii c radix high h = grind (arith, nat_tests)

pub AllDigits-IsAscii : (radix : ℕ) (ds : List ℕ) → radix ≤ 36 → AllDigits radix ds → IsAscii ds
AllDigits-IsAscii radix [] high all i = omega arith
AllDigits-IsAscii radix (c ∷ cs) high all zero = digit_ascii c radix high all.0
AllDigits-IsAscii radix (c ∷ cs) high all (suc i) = AllDigits-IsAscii radix cs high all.1 i

all_digits : (test : ℕ → Bool) (radix n : ℕ) (s : List ℕ) → ((c : ℕ) → test c ≡ true → digit_value c < radix)
    → n ≤ run test s → AllDigits radix (take n s)
all_digits test radix zero s are le = tt
all_digits test radix (suc n) [] are le = absurd (omega arith)
all_digits test radix (suc n) (c ∷ cs) are le =
    (are c (passes (test c) le), all_digits test radix n cs are (rest_of (test c) le))
  where
    passes : (b : Bool) → suc n ≤ cond b (1 + run test cs) 0 → b ≡ true
    passes true h = refl
    passes false h = absurd (omega arith)

    rest_of : (b : Bool) → suc n ≤ cond b (1 + run test cs) 0 → n ≤ run test cs
    rest_of true h = omega arith
    rest_of false h = absurd (omega arith)

-- the digits of an escape, as the code cuts them out, are a numeral of its value
pub IsEscapeDigits-cut :
    (test : ℕ → Bool) (radix most : ℕ) (s front : List ℕ) (longest n m v : ℕ)
    → ((c : ℕ) → test c ≡ true → digit_value c < radix) → longest ≡ run test s → n ≡ min longest most
    → front ≡ take n s → length front ≡ n → IsEscapeDigits test radix most s m v
    → IsNumeral radix front × (digits_value radix front ≡ v)
IsEscapeDigits-cut test radix most s front longest n m v are counted least cut long d =
    let same : n ≡ m = omega (arith, d.whole) in
    let some : 0 < length front = omega (arith, d.some) in
    let all : AllDigits radix front = rw cut (all_digits test radix n s are (omega arith)) in
    ((some, all), ap (digits_value radix) cut ∙ ap (λ k. digits_value radix (take k s)) same ∙ sym d.value)

pub octal_digit : (c : ℕ) → is_octal c ≡ true → digit_value c < 8
octal_digit c h = grind (arith, nat_tests)

pub hex_digit : (c : ℕ) → is_ascii_hexdigit c ≡ true → digit_value c < 16
hex_digit c h = grind (arith, nat_tests)

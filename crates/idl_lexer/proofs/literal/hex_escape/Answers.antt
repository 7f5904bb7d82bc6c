use Rattle.std.proofs.Common.{◌≡◌, ◌∙◌, ℕ, zero, suc, ◌+◌, ◌^◌, ◌<◌, ◌≤◌, List, length, take, drop, min, slice_index, ap, refl, arith}
use Rattle.std.specs.Str.Parse.{AllDigits, digits_value}
use Rattle.std.specs.Char.{is_ascii_hexdigit}
use Rattle.idl_lexer.specs.Octets.{run}
use Rattle.idl_lexer.specs.Literals.{IsCharacter, hexadecimal}
use Rattle.std.proofs.lemmas.Int.Digits.{digits_value-lt}
use Rattle.idl_lexer.proofs.Digits.{IsEscapeDigits-cut, hex_digit}
use Rattle.idl_lexer.proofs.literal.hex_escape.Goals as goal

-- from what the steps give, rest and front being the digits and what follows them, and the digits alone
made : (quote : ℕ) (s rest front : List ℕ) (longest n v : ℕ) → slice_index s 0 ≡ 92 → slice_index s 1 ≡ 120
    → rest ≡ drop 2 s → longest ≡ run is_ascii_hexdigit rest → n ≡ min longest 2 → front ≡ take n rest
    → length front ≡ n → 0 < length front → v ≡ digits_value 16 front → IsCharacter quote s (n + 2) v
made quote s rest front longest n v opens mark behind counted least digits long some value =
    hexadecimal n opens mark (record {
      some = omega arith;
      whole = least ∙ ap (λ k. min k 2) (counted ∙ ap (run is_ascii_hexdigit) behind);
      value = value ∙ ap (digits_value 16) (digits ∙ ap (take n) behind);
    }) refl

pub returns-in-Some-clause-form : goal.returns-in-Some-clause-form
returns-in-Some-clause-form c quote =
    made quote _ _ _ _ _ _ c.requires.opens c.requires.mark c.split_at.ensures.back c.hex_len.ensures.value
    c.min-len.ensures c.split_at-2.ensures.front c.split_at-2.ensures.front_len c.in-Some.ensures.some
    c.in-Some.ensures.value

small : (front : List ℕ) (n longest : ℕ) → AllDigits 16 front → length front ≡ n → n ≡ min longest 2
    → digits_value 16 front < 256
small front n longest all long least = two (length front) (omega arith) (digits_value-lt 16 front all)
  where
    two : (k : ℕ) → k ≤ 2 → digits_value 16 front < 16 ^ k → digits_value 16 front < 256
    two zero le lt = omega (arith, lt)
    two (suc zero) le lt = omega (arith, lt)
    two (suc (suc zero)) le lt = omega (arith, lt)
    two (suc (suc (suc k))) le lt = absurd (omega arith)

pub returns-in-None-clause-complete : goal.returns-in-None-clause-complete
returns-in-None-clause-complete c m v digits =
    let cut = IsEscapeDigits-cut is_ascii_hexdigit 16 2 (drop 2 c.args.octets.now) c.split_at-2.result.0.now
    c.hex_len.result c.min-len.result m v hex_digit
    (rw (← c.split_at.ensures.back) c.hex_len.ensures.value) c.min-len.ensures
    (rw (← c.split_at.ensures.back) c.split_at-2.ensures.front) c.split_at-2.ensures.front_len digits in
    c.in-None.ensures.complete cut.0
    (small c.split_at-2.result.0.now c.min-len.result c.hex_len.result cut.0.1 c.split_at-2.ensures.front_len
    c.min-len.ensures)

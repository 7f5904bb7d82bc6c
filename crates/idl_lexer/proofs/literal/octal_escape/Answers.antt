use Rattle.std.proofs.Common.{◌≡◌, ◌∙◌, ℕ, ◌+◌, ◌<◌, List, length, take, drop, min, slice_index, ap, refl, arith}
use Rattle.std.specs.Str.Parse.{digits_value}
use Rattle.idl_lexer.specs.Octets.{is_octal}
use Rattle.idl_lexer.specs.Octets.{run}
use Rattle.idl_lexer.specs.Literals.{IsCharacter, octal}
use Rattle.idl_lexer.proofs.Digits.{IsEscapeDigits-cut, octal_digit}
use Rattle.idl_lexer.proofs.literal.octal_escape.Goals as goal

-- from what the steps give, rest and front being the digits and what follows them, and the digits alone
made : (quote : ℕ) (s rest front : List ℕ) (longest n v : ℕ) → slice_index s 0 ≡ 92 → rest ≡ drop 1 s
    → longest ≡ run is_octal rest → n ≡ min longest 3 → front ≡ take n rest → length front ≡ n → 0 < length front
    → v ≡ digits_value 8 front → v < 256 → IsCharacter quote s (n + 1) v
made quote s rest front longest n v opens behind counted least digits long some value fits =
    octal n opens (record {
      some = omega arith;
      whole = least ∙ ap (λ k. min k 3) (counted ∙ ap (run is_octal) behind);
      value = value ∙ ap (digits_value 8) (digits ∙ ap (take n) behind);
    }) fits refl

pub returns-in-Some-clause-form : goal.returns-in-Some-clause-form
returns-in-Some-clause-form c quote =
    made quote _ _ _ _ _ _ c.requires.opens c.split_at.ensures.back c.octal_len.ensures.value c.min-len.ensures
    c.split_at-2.ensures.front c.split_at-2.ensures.front_len c.in-Some.ensures.some c.in-Some.ensures.value
    (omega (arith, c.in-Some.ensures.octet))

pub returns-in-None-clause-complete : goal.returns-in-None-clause-complete
returns-in-None-clause-complete c m v digits small =
    let cut = IsEscapeDigits-cut is_octal 8 3 (drop 1 c.args.octets.now) c.split_at-2.result.0.now c.octal_len.result
    c.min-len.result m v octal_digit
    (rw (← c.split_at.ensures.back) c.octal_len.ensures.value) c.min-len.ensures
    (rw (← c.split_at.ensures.back) c.split_at-2.ensures.front) c.split_at-2.ensures.front_len digits in
    c.in-None.ensures.complete cut.0 (omega (arith, cut.1))

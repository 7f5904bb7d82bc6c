-- Ports as digits spell them.
use Rattle.std.proofs.Common.{◌≡◌, ℕ, ◌<◌, List, length, Option, Some, None, Ok, Err, Result, true, arith, rules}
use Rattle.std.proofs.lemmas.Bool.Decides.{nat_tests}
use Rattle.std.proofs.lemmas.Str.Parse.{IsNumeralModel, numerals_by_value, parse_digits}
use Rattle.std.specs.Char.{is_ascii_digit}
use Rattle.std.specs.List.{list_all}
use Rattle.std.specs.Str.Parse.{ParsesUnsigned, digits_value}
use Rattle.reference_texts.specs.Places.{port_of}

own : IsNumeralModel (λ ds. list_all is_ascii_digit ds ≡ true) (digits_value 10)
own = numerals_by_value _ (search rules)

pub no_port : (E : Type 0) (digits : List ℕ) (e : E) → ParsesUnsigned {E = E} 16 10 digits (Err e)
    → list_all is_ascii_digit digits ≡ true → None ≡ port_of digits
no_port E digits e h all =
    let unparsed = parse_digits own {E = E} 16 digits (Err e) h all in
    grind (arith, nat_tests, all, unparsed)

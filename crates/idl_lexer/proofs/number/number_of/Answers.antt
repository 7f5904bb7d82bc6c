use Rattle.std.proofs.lemmas.Str.{IsUtf8-from_ascii}
use Rattle.idl_lexer.proofs.Digits.{AllDigits-IsAscii}
use Rattle.idl_lexer.proofs.number.number_of.Goals as goal

pub returns-in-Err-clause-complete : goal.returns-in-Err-clause-complete
returns-in-Err-clause-complete c number =
    absurd (c.in-Err.ensures.cases.0
    (IsUtf8-from_ascii c.args.digits.now
    (AllDigits-IsAscii c.args.radix c.args.digits.now c.requires.high number.numeral.1)))

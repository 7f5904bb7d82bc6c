use Rattle.std.proofs.Common.{◌≡◌, Some, None, sym, ap, ◌∙◌, subst, arith, rules}
use Rattle.std.specs.Fmt.{signed_decimal}
use Rattle.std.specs.Result.{result_ok}
use Rattle.std.proofs.lemmas.Fmt.{parse-signed_decimal}
use Rattle.std.proofs.lemmas.Option.{same_Some}
use Rattle.std.proofs.lemmas.Int.{to_z-of_z}
use mir.Syntax.{w64, w128}
use mir.Val.{SFits, to_z, of_z}
use Rattle.value_text.specs.inner.Refusing.{IsShort}
use Rattle.value_text.proofs.OneNumber.{digits_one, is_wide}
use Rattle.value_text.proofs.ReadLaws.{not_none}
use Rattle.value_text.proofs.words.signed_of.Goals as goal

pub returns-in_err-n-clause-complete : goal.returns-in_err-n-clause-complete
returns-in_err-n-clause-complete c = λ n low e.
    let fits : SFits w64 n = search rules in
    let parsed = parse-signed_decimal w64 n c.args.digits.now c.parse.result fits low e c.parse.ensures.value.0 in
    let none : c.ok.result ≡ None = search rules in
    absurd (not_none _ _ none (c.ok.ensures.value ∙ ap result_ok parsed))

pub returns-then-ne-clause-complete : goal.returns-then-ne-clause-complete
returns-then-ne-clause-complete c = λ n low e.
    let fits : SFits w64 n = search rules in
    let parsed = parse-signed_decimal w64 n c.args.digits.now c.parse.result fits low e c.parse.ensures.value.0 in
    let got : c.ok.result ≡ Some c.in_ok-n.n = search rules in
    let same = same_Some _ _ (sym got ∙ c.ok.ensures.value ∙ ap result_ok parsed) in
    let inside = subst (SFits w64) (sym same) fits in
    let text : c.format.result.now ≡ c.args.digits.now = c.format.ensures.text
    ∙ ap signed_decimal (to_z-of_z w64 c.in_ok-n.n inside ∙ same) ∙ sym e in
    absurd (search rules)

pub returns-clause-complete : goal.returns-clause-complete
returns-clause-complete c = λ n low e.
    let v = to_z w128 (of_z w128 c.from.result) in
    let some : c.args.digits.now ≡ signed_decimal v = search rules in
    let short : IsShort v = search rules in
    ap Some (digits_one v n (is_wide v short) (omega arith) (sym some ∙ e))

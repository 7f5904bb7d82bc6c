use Rattle.std.proofs.Common.{◌≡◌, Some, sym, ap, ◌∙◌, rules}
use Rattle.std.specs.Fmt.{signed_decimal}
use mir.Syntax.{w128}
use mir.Val.{to_z, of_z}
use Rattle.value_text.specs.inner.Refusing.{IsShort}
use Rattle.value_text.proofs.OneNumber.{digits_one, is_wide}
use Rattle.value_text.proofs.words.whole_of.Goals as goal

pub returns-in-Some-clause-complete : goal.returns-in-Some-clause-complete
returns-in-Some-clause-complete c = λ n small e.
    let v = to_z w128 (of_z w128 c.in-Some.n) in
    let some : c.args.digits.now ≡ signed_decimal v = search rules in
    let short : IsShort v = search rules in
    ap Some (digits_one v n (is_wide v short) (is_wide n small) (sym some ∙ e))

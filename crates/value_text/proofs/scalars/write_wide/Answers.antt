use Rattle.std.proofs.Common.{◌^◌, ◌<◌, rules, sym, subst, ◌∙◌, ap}
use Rattle.std.proofs.lemmas.Int.{to_z-of_z}
use mir.Syntax.{w128}
use mir.Val.{SFits}
use lib.Signed.{mag}
use Rattle.std.specs.Fmt.{signed_decimal}
use Rattle.json.specs.Print.{IsNumber}
use Rattle.value_text.proofs.Numerals.{signed_is_number}
use Rattle.value_text.proofs.scalars.write_wide.Goals as goal

pub number-requires : goal.number-requires
number-requires c =
    let fits : SFits w128 c.args.n = search rules in
    let short : mag c.args.n < 2 ^ 128 = search rules in
    let text = c.format.ensures.text ∙ ap signed_decimal (to_z-of_z w128 c.args.n fits) in
    subst IsNumber (sym text) (signed_is_number c.args.n short)

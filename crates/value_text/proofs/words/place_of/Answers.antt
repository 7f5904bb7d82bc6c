use Rattle.std.proofs.Common.{◌≡◌, Some, ap, rules}
use mir.Syntax.{w128}
use mir.Val.{to_z}
use Rattle.value_text.specs.Texts.{label_of}
use Rattle.value_text.proofs.OneNumber.{label_one}
use Rattle.value_text.proofs.words.place_of.Goals as goal

pub returns-clause-complete : goal.returns-clause-complete
returns-clause-complete c = λ apart n e.
    let place = to_z w128 c.in_ok-place.place in
    let found : label_of c.args.labels.now place ≡ Some c.args.label.now = search rules in
    ap Some (label_one c.args.labels.now place n c.args.label.now apart found e)

use Rattle.std.proofs.Common.{◌∙◌, arith, get_or}
use Rattle.std.proofs.lemmas.Grind.{common_steps}
use Rattle.broker_answers.specs.Attributes.{attribute_named}
use Rattle.broker_answers.specs.inner.Places.{place_in}
use Rattle.broker_answers.proofs.Looked.{same_deed}
use Rattle.broker_answers.proofs.attribute_keeper.attributes.find_actions.Goals as goal

pub loop-number-preserved : goal.loop-number-preserved
loop-number-preserved c =
    let model = c.args.model.now in
    let number = get_or c.args.numbers.now c.loop-number.number-index 0 in
    let same = same_deed model number (place_in c.in_ok-places.places.entries)
    (attribute_named model c.args.getters.now) c.in_ok-places.ensures in
    let action = c.number_deed.ensures ∙ same in
    grind (arith, common_steps)

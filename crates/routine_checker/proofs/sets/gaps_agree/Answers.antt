use Rattle.std.proofs.Common.{◌∙◌, ap}
use Rattle.routine_checker.specs.Sets.{is_within}
use Rattle.routine_checker.proofs.PlaceLaws.{agree_within}
use Rattle.routine_checker.proofs.sets.gaps_agree.Goals as goal

pub returns : goal.returns
returns c = c.is_within.ensures ∙ ap (is_within c.args.set) c.agreeing.ensures
    ∙ agree_within c.args.set c.args.made c.args.due

use Rattle.routine_checker.proofs.MaskLaws.{within_by_mask}
use Rattle.routine_checker.proofs.sets.is_within.Goals as goal

pub returns : goal.returns
returns c = within_by_mask c.args.set c.args.other c.ranges.set.fits

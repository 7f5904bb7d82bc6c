use Rattle.std.proofs.Common.{length}
use Rattle.routine_checker.proofs.pieces.+are_arms_of.Given as goal

abbrev pub decreases-are_arms_of : goal.decreases-are_arms_of
decreases-are_arms_of l = length l.arms.now

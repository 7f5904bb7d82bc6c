use Rattle.std.proofs.Common.{◌≤◌, ◌-◌, length}
use Rattle.broker_sockets.proofs.tally.Tally.see.Given as goal

abbrev pub invariant-loop-seen : goal.invariant-loop-seen
invariant-loop-seen l = l.seen ≤ length l.octets

abbrev pub decreases-loop-seen : goal.decreases-loop-seen
decreases-loop-seen l = length l.octets - l.seen

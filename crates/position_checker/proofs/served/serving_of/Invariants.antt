use Rattle.position_checker.proofs.ServedLaws.{ServedUpTo}
use Rattle.position_checker.proofs.served.serving_of.Given as goal

abbrev pub invariant-loop-number : goal.invariant-loop-number
invariant-loop-number l = ServedUpTo l.program l.count l.number l.served.items

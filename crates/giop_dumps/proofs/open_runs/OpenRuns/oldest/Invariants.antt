use Rattle.giop_dumps.proofs.RunLaws.{IsBest}
use Rattle.giop_dumps.proofs.open_runs.OpenRuns.oldest.Given as goal

abbrev pub invariant-loop-id : goal.invariant-loop-id
invariant-loop-id l = IsBest l.oldest l.self l.yielded

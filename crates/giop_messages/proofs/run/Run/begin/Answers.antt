use Rattle.std.proofs.Common.{sym, subst}
use Rattle.giop_messages.specs.Runs.{IsRun}
use Rattle.giop_messages.proofs.RunFacts.{begun_run}
use Rattle.giop_messages.proofs.run.Run.begin.Goals as goal

pub invariant_of-result : goal.invariant_of-result
invariant_of-result c = subst IsRun (sym c.in_ok-begin_run.ensures) (begun_run c.args.first.now c.requires)

use Rattle.std.proofs.Common.{length}
use Rattle.giop_dumps.specs.OpenRuns.{MakesRoom, Runs}
use Rattle.giop_dumps.proofs.open_runs.OpenRuns.make_room.Given as goal

abbrev pub invariant-loop-alloc : goal.invariant-loop-alloc
invariant-loop-alloc l = (after : Runs) → MakesRoom l.len l.self after → MakesRoom l.len l.fn.self after

abbrev pub decreases-loop-alloc : goal.decreases-loop-alloc
decreases-loop-alloc l = length l.self

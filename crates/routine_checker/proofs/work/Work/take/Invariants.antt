use Rattle.std.proofs.Common.{◌≡◌}
use Rattle.routine_checker.specs.Taking.{taken}
use Rattle.routine_checker.specs.inner.Work.{wants, work_of}
use Rattle.routine_checker.proofs.work.Work.take.Given as goal

abbrev pub invariant-loop-left : goal.invariant-loop-left
invariant-loop-left l =
    taken l.pieces (wants l.wanted) l.wanted.nodes.now (work_of l.initial.self.items.items)
    ≡ taken l.left (wants l.wanted) l.wanted.nodes.now (work_of l.self.items.items)

abbrev pub decreases-loop-left : goal.decreases-loop-left
decreases-loop-left l = l.left

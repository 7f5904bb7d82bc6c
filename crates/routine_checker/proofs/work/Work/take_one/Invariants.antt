use Rattle.std.proofs.Common.{◌≡◌, ◌-◌, ◌++◌}
use Rattle.routine_checker.specs.Taking.{taken_within}
use Rattle.routine_checker.specs.inner.Work.{wants, held, work_of}
use Rattle.routine_checker.proofs.work.Work.take_one.Given as goal

abbrev pub invariant-loop-level : goal.invariant-loop-level
invariant-loop-level l =
    taken_within 64 (wants l.wanted) l.wanted.nodes.now (work_of l.initial.self.items.items)
    ≡ taken_within (64 - l.level) (wants l.wanted) l.wanted.nodes.now (held l.parts ++ work_of l.self.items.items)

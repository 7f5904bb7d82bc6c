use Rattle.std.proofs.Common.{◌≡◌, ◌-◌}
use Rattle.routine_checker.specs.Taking.{is_done_within}
use Rattle.routine_checker.specs.inner.Work.{work_of}
use Rattle.routine_checker.proofs.work.Work.is_done.Given as goal

abbrev pub invariant-loop-level : goal.invariant-loop-level
invariant-loop-level l =
    is_done_within 64 l.nodes (work_of l.initial.self.items.items)
    ≡ is_done_within (64 - l.level) l.nodes (work_of l.self.items.items)

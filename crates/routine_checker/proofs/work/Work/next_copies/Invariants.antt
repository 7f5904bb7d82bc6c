use Rattle.std.proofs.Common.{◌≡◌, length}
use Rattle.routine_checker.specs.inner.Work.{work_of}
use Rattle.routine_checker.proofs.work.Work.next_copies.Given as goal

abbrev pub invariant-loop-item : goal.invariant-loop-item
invariant-loop-item l = work_of l.initial.self.items.items ≡ work_of l.self.items.items

abbrev pub decreases-loop-item : goal.decreases-loop-item
decreases-loop-item l = length l.self.items.items

use Rattle.std.proofs.Common.{◌≡◌, ◌∷◌, [], Some}
use Rattle.routine_checker.specs.inner.Progress.{work_behind}
use Rattle.routine_checker.specs.inner.Work.{work_of}
use Rattle.routine_checker.proofs.check.take_work.Given as goal

abbrev pub invariant-loop-n : goal.invariant-loop-n
invariant-loop-n l = work_behind l.graph l.program l.routine.code l.n (l.routine.node ∷ [])
    ≡ Some (work_of l.work.items.items)

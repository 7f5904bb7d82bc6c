use Rattle.std.proofs.Common.{◌≡◌, ℕ, List, Some, drop}
use Rattle.routine_checker.specs.Steps.{followed}
use Rattle.routine_checker.specs.inner.Progress.{work_behind, state_of}
use Rattle.routine_checker.proofs.check.follow.Given as goal

abbrev pub invariant-loop-n : goal.invariant-loop-n
invariant-loop-n l = (work rest : List ℕ) → work_behind l.graph l.program l.routine.code l.n work ≡ Some rest
    → followed l.graph l.program l.at 0 l.routine.code (state_of work l.fn.start)
    ≡ followed l.graph l.program l.at l.n (drop l.n l.routine.code) (state_of rest l.reached)

use Rattle.std.proofs.Common.{◌≡◌, ◌++◌, drop, map}
use Rattle.name_steps.specs.Steps.{size_step}
use Rattle.name_steps.specs.StepsKept.{steps_in}
use Rattle.name_steps.proofs.step.Steps.add_sizes.Given as goal

abbrev pub invariant-loop-size : goal.invariant-loop-size
invariant-loop-size l = steps_in l.self ++ map size_step (drop l.size-index l.sizes)
    ≡ steps_in l.fn.self ++ map size_step l.sizes

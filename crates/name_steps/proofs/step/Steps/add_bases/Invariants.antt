use Rattle.std.proofs.Common.{◌≡◌, ◌++◌, drop, map}
use Rattle.name_steps.specs.Steps.{HasBase, optional_parts}
use Rattle.name_steps.specs.StepsKept.{steps_in}
use Rattle.name_steps.proofs.step.Steps.add_bases.Given as goal

abbrev pub invariant-loop-name : goal.invariant-loop-name
invariant-loop-name l = steps_in l.self ++ map (HasBase l.identifier) (drop l.name-index l.rest)
    ≡ steps_in l.fn.self ++ map (HasBase l.identifier) (optional_parts l.fn.names)

use Rattle.std.proofs.Common.{◌≡◌, ◌++◌, drop}
use Rattle.std.specs.List.{flat_map}
use Rattle.name_steps.specs.Steps.{optional_parts, param_steps}
use Rattle.name_steps.specs.StepsKept.{steps_in}
use Rattle.name_steps.proofs.step.Steps.add_params.Given as goal

abbrev pub invariant-loop-param : goal.invariant-loop-param
invariant-loop-param l = steps_in l.self ++ flat_map (param_steps l.identifier) (drop l.param-index l.rest)
    ≡ steps_in l.fn.self ++ flat_map (param_steps l.identifier) (optional_parts l.fn.params)

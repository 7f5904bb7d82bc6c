use Rattle.std.proofs.Common.{◌≡◌, ◌++◌, drop}
use Rattle.std.specs.List.{flat_map}
use Rattle.name_steps.specs.Steps.{export_steps}
use Rattle.name_steps.specs.StepsKept.{steps_in}
use Rattle.name_steps.proofs.step.Steps.add_exports.Given as goal

abbrev pub invariant-loop-export : goal.invariant-loop-export
invariant-loop-export l = steps_in l.self ++ flat_map export_steps (drop l.export-index l.exports)
    ≡ steps_in l.fn.self ++ flat_map export_steps l.exports

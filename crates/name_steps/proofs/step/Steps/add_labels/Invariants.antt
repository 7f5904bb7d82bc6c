use Rattle.std.proofs.Common.{◌≡◌, ◌++◌, drop}
use Rattle.std.specs.List.{flat_map}
use Rattle.idl_tree.specs.Lists.{parts}
use Rattle.name_steps.specs.Steps.{label_steps}
use Rattle.name_steps.specs.StepsKept.{steps_in}
use Rattle.name_steps.proofs.step.Steps.add_labels.Given as goal

abbrev pub invariant-loop-label : goal.invariant-loop-label
invariant-loop-label l = steps_in l.self ++ flat_map label_steps (drop l.label-index l.rest)
    ≡ steps_in l.fn.self ++ flat_map label_steps (parts l.labels)

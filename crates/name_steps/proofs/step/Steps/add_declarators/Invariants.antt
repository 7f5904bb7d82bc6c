use Rattle.std.proofs.Common.{◌≡◌, ◌++◌, drop}
use Rattle.std.specs.List.{flat_map}
use Rattle.idl_tree.specs.Lists.{parts}
use Rattle.name_steps.specs.Steps.{declarator_steps}
use Rattle.name_steps.specs.StepsKept.{steps_in}
use Rattle.name_steps.proofs.step.Steps.add_declarators.Given as goal

abbrev pub invariant-loop-declarator : goal.invariant-loop-declarator
invariant-loop-declarator l = steps_in l.self ++ flat_map declarator_steps (drop l.declarator-index l.rest)
    ≡ steps_in l.fn.self ++ flat_map declarator_steps (parts l.list)

use Rattle.std.proofs.Common.{◌≡◌, ◌++◌, drop, map}
use Rattle.idl_tree.specs.Lists.{parts}
use Rattle.name_steps.specs.Steps.{NamesException}
use Rattle.name_steps.specs.StepsKept.{steps_in}
use Rattle.name_steps.proofs.step.Steps.add_raises.Given as goal

abbrev pub invariant-loop-name : goal.invariant-loop-name
invariant-loop-name l = steps_in l.self ++ map NamesException (drop l.name-index l.rest)
    ≡ steps_in l.fn.self ++ map NamesException (parts l.names)

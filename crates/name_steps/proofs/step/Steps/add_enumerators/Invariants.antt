use Rattle.std.proofs.Common.{◌≡◌, ◌++◌, drop, map}
use Rattle.idl_tree.specs.Lists.{parts}
use Rattle.name_steps.specs.Steps.{DeclaresEnumerator}
use Rattle.name_steps.specs.StepsKept.{steps_in}
use Rattle.name_steps.proofs.step.Steps.add_enumerators.Given as goal

abbrev pub invariant-loop-identifier : goal.invariant-loop-identifier
invariant-loop-identifier l = steps_in l.self ++ map DeclaresEnumerator (drop l.identifier-index l.rest)
    ≡ steps_in l.fn.self ++ map DeclaresEnumerator (parts l.list)

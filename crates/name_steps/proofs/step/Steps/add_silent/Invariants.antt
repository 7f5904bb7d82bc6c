use Rattle.std.proofs.Common.{◌≡◌, ◌++◌, drop, map}
use Rattle.idl_tree.specs.Lists.{parts}
use Rattle.name_steps.specs.Steps.{DeclaresFeature}
use Rattle.idl_tree.specs.declared.kinds.EntryKind.TheVariants.{Attribute}
use Rattle.name_steps.specs.StepsKept.{steps_in}
use Rattle.name_steps.proofs.step.Steps.add_silent.Given as goal

abbrev pub invariant-loop-identifier : goal.invariant-loop-identifier
invariant-loop-identifier l = steps_in l.self ++ map (DeclaresFeature Attribute) (drop l.identifier-index l.rest)
    ≡ steps_in l.fn.self ++ map (DeclaresFeature Attribute) (parts l.identifiers)

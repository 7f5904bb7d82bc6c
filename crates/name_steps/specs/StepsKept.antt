-- The steps that are kept, as contracts see them.
use Rattle.std.specs.Prelude.{List, [], ◌∷◌, map}
use Rattle.idl_tree.specs.declared.definitions.Definition.{Definition, Pragma, Declaration, Interface, Module'}
use Rattle.name_steps.specs.declared.step.Step.{Step}
use Rattle.name_steps.specs.declared.step.Steps.{Steps}
use Rattle.name_steps.specs.declared.step.Step.TheVariants as Kept
use Rattle.name_steps.specs.Steps.{Step as TreeStep, Declares, DeclaresEnum, DeclaresEnumerator, DeclaresTypedef, IsNew, DeclaresConst, DeclaresFeature, HasMember, IsUndefined, HasBase, Enters, Defines, Leaves, NamesType, NamesException, HasWorth, IsSize, Says, declaration_steps, interface_steps}

abbrev pub step_of : Step → TreeStep
step_of (Kept.Declares kind l) = Declares kind l
step_of (Kept.DeclaresEnum l) = DeclaresEnum l
step_of (Kept.DeclaresEnumerator l) = DeclaresEnumerator l
step_of (Kept.DeclaresTypedef t d) = DeclaresTypedef t.now d.now
step_of (Kept.IsNew l) = IsNew l
step_of (Kept.DeclaresConst c) = DeclaresConst c.now
step_of (Kept.DeclaresFeature kind l) = DeclaresFeature kind l
step_of (Kept.HasMember l) = HasMember l
step_of (Kept.IsUndefined l) = IsUndefined l
step_of (Kept.HasBase l name) = HasBase l name.now
step_of (Kept.Enters l) = Enters l
step_of (Kept.Defines l) = Defines l
step_of Kept.Leaves = Leaves
step_of (Kept.NamesType name) = NamesType name.now
step_of (Kept.NamesException name) = NamesException name.now
step_of (Kept.HasWorth e) = HasWorth e.now
step_of (Kept.IsSize e) = IsSize e.now
step_of (Kept.Says l) = Says l

-- the steps in order
abbrev pub steps_in : Steps → List TreeStep
steps_in steps = map step_of steps.list.items

-- those of a definition but for a module, which has none
abbrev pub flat_steps : Definition → List TreeStep
flat_steps (Pragma l) = Says l ∷ []
flat_steps (Declaration d) = declaration_steps d
flat_steps (Interface i) = interface_steps i
flat_steps (Module' id shape definitions) = []

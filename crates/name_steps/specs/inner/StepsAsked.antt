-- Steps by what the code calls them.
use Rattle.idl_tree.specs.declared.expression.Expr.{Expr}
use Rattle.idl_tree.specs.declared.names.Leaf.{Leaf}
use Rattle.idl_tree.specs.declared.names.ScopedName.{ScopedName}
use Rattle.name_steps.specs.declared.step.ExprStep.{ExprStep}
use Rattle.name_steps.specs.declared.step.ExprStep.TheVariants as OfExpr
use Rattle.name_steps.specs.declared.step.LeafStep.{LeafStep}
use Rattle.name_steps.specs.declared.step.LeafStep.TheVariants as OfLeaf
use Rattle.name_steps.specs.declared.step.NameStep.{NameStep}
use Rattle.name_steps.specs.declared.step.NameStep.TheVariants as OfName
use Rattle.name_steps.specs.Steps.{Step, Declares, DeclaresEnum, DeclaresEnumerator, IsNew, DeclaresFeature, HasMember, IsUndefined, Enters, Defines, NamesType, NamesException, HasWorth, IsSize, Says}

abbrev pub leaf_step : LeafStep → Leaf → Step
leaf_step (OfLeaf.Declares kind) l = Declares kind l
leaf_step OfLeaf.DeclaresEnum l = DeclaresEnum l
leaf_step OfLeaf.DeclaresEnumerator l = DeclaresEnumerator l
leaf_step OfLeaf.IsNew l = IsNew l
leaf_step (OfLeaf.DeclaresFeature kind) l = DeclaresFeature kind l
leaf_step OfLeaf.HasMember l = HasMember l
leaf_step OfLeaf.IsUndefined l = IsUndefined l
leaf_step OfLeaf.Enters l = Enters l
leaf_step OfLeaf.Defines l = Defines l
leaf_step OfLeaf.Says l = Says l

abbrev pub name_step : NameStep → ScopedName → Step
name_step OfName.IsType name = NamesType name
name_step OfName.IsException name = NamesException name

abbrev pub expr_step : ExprStep → Expr → Step
expr_step OfExpr.HasWorth e = HasWorth e
expr_step OfExpr.IsSize e = IsSize e

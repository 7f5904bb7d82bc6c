use Rattle.std.proofs.Common.{[], subst, sym}
use Rattle.std.specs.List.{IsDistinct}
use Rattle.type_model.specs.PartNamesNames.{AreApart}
use Rattle.type_model.proofs.part_names.node.NodeNames.none.Goals as goal

none_apart : AreApart []
unfolding IsDistinct
none_apart = tt

pub invariant_of-result : goal.invariant_of-result
invariant_of-result c = subst AreApart (sym c.new.ensures.items) none_apart

use Rattle.std.proofs.Common.{[], sym, subst}
use Rattle.name_table.specs.inner.Keys.{AreNumbered}
use Rattle.name_table.proofs.Numbers.{none_numbered}
use Rattle.name_table.proofs.numbered.Numbered.new.Goals as goal

pub invariant_of-result : goal.invariant_of-result
invariant_of-result g c =
    subst (λ es. AreNumbered g.K.Ord.cmp es []) (sym c.new.ensures.empty) (none_numbered g.K.Ord.cmp)

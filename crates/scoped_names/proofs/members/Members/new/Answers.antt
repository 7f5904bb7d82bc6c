use Rattle.std.proofs.Common.{[], sym, subst}
use Rattle.scoped_names.specs.inner.StateKept.{AreFound}
use Rattle.scoped_names.proofs.MembersKept.{found_none}
use Rattle.scoped_names.proofs.members.Members.new.Goals as goal

pub invariant_of-result : goal.invariant_of-result
invariant_of-result c =
    subst (λ few. AreFound [] few c.new-2.result.items) (sym c.new.ensures.items)
    (subst (AreFound [] []) (sym c.new-2.ensures.items) found_none)

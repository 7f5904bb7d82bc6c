use Rattle.std.proofs.Common.{◌∙◌, ap}
use Rattle.scoped_names.specs.inner.StateKept.{leaves_at}
use Rattle.scoped_names.proofs.MembersKept.{first_room}
use Rattle.scoped_names.proofs.members.make_room.Goals as goal

pub loop-alloc-preserved : goal.loop-alloc-preserved
loop-alloc-preserved c = λ s.
    ap (λ ls. leaves_at ls s) c.in_ok-push.ensures.items
    ∙ first_room c.loop-alloc.few.items c.new.result c.new.ensures.items s ∙ c.loop-alloc.invariant s

pub returns-in_err-push-clause-same : goal.returns-in_err-push-clause-same
returns-in_err-push-clause-same c = λ s. ap (λ ls. leaves_at ls s) c.in_err-push.ensures.items
    ∙ c.loop-alloc.invariant s

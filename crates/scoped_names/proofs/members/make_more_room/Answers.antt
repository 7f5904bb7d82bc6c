use Rattle.std.proofs.Common.{◌∙◌, ap}
use Rattle.scoped_names.specs.inner.StateKept.{places_at}
use Rattle.scoped_names.proofs.MembersKept.{kept_room}
use Rattle.scoped_names.proofs.members.make_more_room.Goals as goal

pub loop-alloc-preserved : goal.loop-alloc-preserved
loop-alloc-preserved c = λ s.
    ap (λ ms. places_at ms s) c.in_ok-push.ensures.items
    ∙ kept_room c.loop-alloc.many.items c.new.result c.new.ensures.empty s ∙ c.loop-alloc.invariant s

pub returns-in_err-push-clause-same : goal.returns-in_err-push-clause-same
returns-in_err-push-clause-same c = λ s. ap (λ ms. places_at ms s) c.in_err-push.ensures.items
    ∙ c.loop-alloc.invariant s

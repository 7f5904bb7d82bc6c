use Rattle.std.proofs.Common.{◌∙◌, sym, ap, arith}
use Rattle.scoped_names.specs.inner.StateKept.{sought}
use Rattle.scoped_names.proofs.MembersKept.{leaves_read, none_first}
use Rattle.scoped_names.proofs.members.seek_first.Goals as goal

pub returns-then-scope-few : goal.returns-then-scope-few
returns-then-scope-few c =
    c.seek.ensures
    ∙ ap (λ ls. sought ls c.args.name.now)
    (c.as_slice.ensures.value
    ∙ sym (leaves_read c.args.few.now c.args.scope.0 c.index-few-scope.result (omega arith) c.index-few-scope.is))

pub returns-else-scope-few : goal.returns-else-scope-few
returns-else-scope-few c =
    ap (λ ls. sought ls c.args.name.now) (sym (none_first c.args.few.now c.args.scope.0 (omega arith)))

use Rattle.std.proofs.Common.{◌∙◌, ap}
use Rattle.std.proofs.lemmas.Result.{err_from_is_err_and}
use Rattle.scoped_names.specs.inner.StateKept.{leaves_with}
use Rattle.scoped_names.proofs.MembersKept.{first_alike, first_kept}
use Rattle.scoped_names.proofs.members.keep_first.Goals as goal

pub returns-in_err-add_leaf-clause-err : goal.returns-in_err-add_leaf-clause-err
returns-in_err-add_leaf-clause-err c =
    let p = err_from_is_err_and c.from_residual-in_err-add_leaf.result c.from_residual-in_err-add_leaf.ensures.1 in
    rw p.1 (λ s.
    first_alike c.make_room.new.few.items c.args.scope.0 c.index_mut.result.now c.add_leaf.new.list
    c.in_ok-make_room.ensures.there c.index_mut.ensures.value c.in_err-add_leaf.ensures.err s
    ∙ c.in_ok-make_room.ensures.same s)

pub returns-clause-kept : goal.returns-clause-kept
returns-clause-kept c = λ s.
    first_kept c.make_room.new.few.items c.args.scope.0 c.index_mut.result.now c.add_leaf.new.list c.args.identifier
    c.in_ok-make_room.ensures.there c.index_mut.ensures.value c.in_ok-add_leaf.ensures.added s
    ∙ ap (λ ls. leaves_with c.args.scope.0 c.args.identifier ls s) (c.in_ok-make_room.ensures.same s)

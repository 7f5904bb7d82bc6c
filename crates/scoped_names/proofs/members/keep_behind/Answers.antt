use Rattle.std.proofs.Common.{◌∙◌, ap}
use Rattle.std.proofs.lemmas.Result.{err_from_is_err_and}
use Rattle.std.specs.BTreeMap.{is_at}
use Rattle.std.specs.Map.{lookup}
use Rattle.name_table.specs.inner.Keys.{word_cmp}
use Rattle.scoped_names.specs.inner.StateKept.{places_with}
use Rattle.scoped_names.proofs.MembersKept.{behind_alike, behind_kept}
use Rattle.scoped_names.proofs.members.keep_behind.Goals as goal

pub returns-in_err-insert-clause-err : goal.returns-in_err-insert-clause-err
returns-in_err-insert-clause-err c =
    let p = err_from_is_err_and c.from_residual-in_err-insert.result c.from_residual-in_err-insert.ensures.1 in
    rw p.1 (λ s.
    behind_alike c.make_more_room.new.many.items c.args.key.scope.0 c.index_mut.result.now c.insert.new.self
    c.in_ok-make_more_room.ensures.there c.index_mut.ensures.value c.in_err-insert.ensures.err s
    ∙ c.in_ok-make_more_room.ensures.same s)

pub returns-clause-kept : goal.returns-clause-kept
returns-clause-kept c = λ s q.
    behind_kept c.make_more_room.new.many.items c.args.key c.args.at c.index_mut.result.now c.insert.new.self
    c.in_ok-make_more_room.ensures.there c.index_mut.ensures.value
    c.in_ok-insert.ensures.updates.0 s q
    ∙ ap (λ es. places_with c.args.key c.args.at q (lookup (is_at (word_cmp q)) es) s)
    (c.in_ok-make_more_room.ensures.same s)

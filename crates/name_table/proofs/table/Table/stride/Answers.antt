use Rattle.std.proofs.Common.{◌≡◌, Some, ◌∙◌, ap, sym, subst, arith}
use Rattle.name_table.specs.inner.Shortcuts.{IsShort, way_at}
use Rattle.name_table.proofs.Ways.{or_more}
use Rattle.name_table.proofs.table.Table.stride.Goals as goal

pub returns-in_ok-list_set-in-Some-clause-passes : goal.returns-in_ok-list_set-in-Some-clause-passes
returns-in_ok-list_set-in-Some-clause-passes c = λ name.
    let short = c.in-Some.short.now in
    let place = c.args.place in
    let at : way_at c.self.inside.shortcuts.items place.scope.0 ≡ Some short =
    sym (c.in-Some.ensures ∙ ap (λ ws. way_at ws place.scope.0) c.as_slice.ensures.value) in
    let is = subst (λ es. IsShort es place.scope.0 short) c.self.view_is (c.self.invariant.1 place.scope.0 short at).1
    in
    or_more short.words.keys c.list_set.new.words.items name (is.same place.token (omega arith) name)
    c.in_ok-list_set-in-Some.ensures.listed

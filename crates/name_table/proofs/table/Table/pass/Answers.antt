use Rattle.std.proofs.Common.{◌≡◌, ◌∙◌, ◌<◌, ap, sym, subst, length, arith}
use Rattle.std.proofs.lemmas.List.{length-map}
use Rattle.name_table.specs.inner.Records.{entry_of, heir_of}
use Rattle.name_table.specs.inner.SeveralBases.{IsKept}
use Rattle.name_table.proofs.Inheriting.{first_placed}
use Rattle.name_table.proofs.MoreBases.{kept_of}
use Rattle.name_table.proofs.Ways.{ok_both, passed}
use Rattle.name_table.proofs.table.Table.pass.Goals as goal

pub enter-requires : goal.enter-requires
enter-requires c =
    let records = c.self.inside.records.items in
    let count : length c.args.self.now ≡ length records = sym (ap length c.self.view_is)
    ∙ length-map records entry_of in
    let placed : c.in-Some.heir.now.first.entry < length records =
    first_placed records c.self.invariant.0.placed c.args.place.scope.0 c.in-Some.heir.now
    (sym (c.in-Some.ensures ∙ ap (λ xs. heir_of xs c.args.place.scope.0) c.as_slice.ensures.value)) in
    omega arith

pub returns-clause-passes : goal.returns-clause-passes
returns-clause-passes c =
    let es = c.args.self.now in
    let h = c.in-Some.heir.now in
    let place = c.args.place in
    let kept : IsKept es place.scope.0 h = subst (λ xs. IsKept xs place.scope.0 h) c.self.view_is
    (kept_of c.self.inside.records.items c.self.invariant.0.searched place.scope.0 h
    (sym (c.in-Some.ensures ∙ ap (λ xs. heir_of xs place.scope.0) c.as_slice.ensures.value))) in
    ok_both c.enter.result
    (λ more next leads. passed es place next h c.list_given.new.words.items c.enter.new.words.items kept (omega arith)
    c.in_ok-list_given.ensures.listed more leads)
    c.enter.ensures.kept c.enter.ensures.leads

use Rattle.std.proofs.Common.{refl, sym, ap, ◌∙◌, ◌≡◌, ◌≤◌, suc, length, slice_get, Some, arith}
use Rattle.std.proofs.lemmas.Option.{slice_get_read}
use Rattle.std.proofs.lemmas.List.{length-map}
use Rattle.name_table.specs.inner.Records.{entry_of}
use Rattle.name_table.specs.Search.{or_else, outwards, within, within_first}
use Rattle.name_table.proofs.Inheriting.{next_scope, scope_behind}
use Rattle.name_table.proofs.table.Table.outwards.Goals as goal

pub loop-found-preserved : goal.loop-found-preserved
loop-found-preserved c =
    let es = c.args.self.now in
    let text = c.args.word.text.now in
    let token = c.args.token in
    let records = c.self.inside.records.items in
    let place = c.loop-found.place.0 in
    let r = c.index.result.now in
    let count : length es ≡ length records = sym (ap length c.self.view_is) ∙ length-map records entry_of in
    let e = c.in-Some.number in
    let here : slice_get records e ≡ Some r =
    slice_get_read records (length records) e r refl (omega (arith, count)) c.index.ensures in
    let behind : r.key.scope.0 ≤ e = scope_behind records c.self.invariant.0.nested e r here in
    let is : suc e ≡ place = omega arith in
    let further = within_first es token (outwards es r.key.scope.0 r.key.scope.0) text in
    let nothing = c.in-Nothing.ensures ∙ ap (λ s. within es token s text) (sym is) in
    record {
      inside = omega arith;
      same =
          ap (λ found. or_else found further) nothing
          ∙ sym (next_scope records es c.self.view_is c.self.invariant.0.nested token e text r here)
          ∙ ap (λ s. within_first es token (outwards es s s) text) is
          ∙ c.loop-found.invariant.same;
    }

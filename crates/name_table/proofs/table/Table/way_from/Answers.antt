use Rattle.std.proofs.Common.{◌≡◌, false, Some, ◌∙◌, ap, sym, subst, arith}
use Rattle.name_table.specs.inner.Shortcuts.{IsShort, way_at}
use Rattle.name_table.proofs.Ways.{not_any, way_is}
use Rattle.name_table.proofs.table.Table.way_from.Goals as goal

pub returns-then-not-declares : goal.returns-then-not-declares
returns-then-not-declares c =
    let short = c.in_ok-short.short.now in
    let place = c.args.place in
    let text = c.args.word.text.now in
    let at : way_at c.self.inside.shortcuts.items place.scope.0 ≡ Some short =
    sym (c.in_ok-short.ensures ∙ ap (λ ws. way_at ws place.scope.0) c.as_slice.ensures.value) in
    let is = subst (λ es. IsShort es place.scope.0 short) c.self.view_is (c.self.invariant.1 place.scope.0 short at).1
    in
    let earlier = is.earlier in
    let h = c.if-not-declares.true in
    let none : c.declares.result ≡ false = cc in (
      omega arith,
      sym (way_is short.words.keys text (is.same place.token (omega arith) text)
          (not_any c.declares.result short.words.keys text c.declares.ensures none)),
    )

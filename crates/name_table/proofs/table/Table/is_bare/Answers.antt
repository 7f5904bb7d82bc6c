use Rattle.std.proofs.Common.{◌≡◌, ◌∙◌, None, vec_len, sym, subst, arith}
use Rattle.std.proofs.lemmas.Bool.Decides.{Decides-eqb}
use Rattle.name_table.specs.Entry.{named}
use Rattle.name_table.proofs.MergedBases.{bare, none_long, words_past}
use Rattle.name_table.proofs.Tied.{words_of_item}
use Rattle.name_table.proofs.table.Table.is_bare.Goals as goal

pub returns-then-scope-len : goal.returns-then-scope-len
returns-then-scope-len c = λ empty name.
    let inside = c.self.inside in
    let words = inside.words.items in
    let v = c.index.result.now in
    let there = words_of_item words c.args.scope.0 v (omega arith) c.index.ensures in
    let none : vec_len v ≡ 0 = (Decides-eqb (vec_len v) 0).0 (sym c.is_empty.ensures ∙ empty) in
    subst (λ es. named es c.args.scope.0 name ≡ None) c.self.view_is
    (bare inside.records.items words c.self.invariant.0.listed c.args.scope.0 name
    (there ∙ none_long v.items (omega (arith, none, v.ok.0))))

pub returns-else-scope-len : goal.returns-else-scope-len
returns-else-scope-len c = λ empty name.
    let inside = c.self.inside in
    let words = inside.words.items in
    subst (λ es. named es c.args.scope.0 name ≡ None) c.self.view_is
    (bare inside.records.items words c.self.invariant.0.listed c.args.scope.0 name
    (words_past words c.args.scope.0 (omega arith)))

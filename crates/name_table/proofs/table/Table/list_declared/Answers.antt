use Rattle.std.proofs.Common.{◌≡◌, ◌∙◌, ◌++◌, ◌⊎◌, ap, sym, subst, arith}
use Rattle.name_table.specs.inner.Records.{HasWord, words_at}
use Rattle.name_table.specs.Search.{own}
use Rattle.name_table.specs.declared.search.Found.TheVariants.{Nothing}
use Rattle.name_table.proofs.MergedBases.{HasWord_front, behind_or, nothing_or, own_or_listed, words_past}
use Rattle.name_table.proofs.Tied.{words_of_item}
use Rattle.name_table.proofs.table.Table.list_declared.Goals as goal

pub returns-in_ok-extend_from_slice-clause-listed : goal.returns-in_ok-extend_from_slice-clause-listed
returns-in_ok-extend_from_slice-clause-listed c = λ n name.
    let inside = c.self.inside in
    let words = inside.words.items in
    let there = words_of_item words c.args.scope.0 c.index.result.now (omega arith) c.index.ensures in
    subst (λ es. (own es n c.args.scope.0 name ≡ Nothing) ⊎ HasWord c.extend_from_slice.new.self.items name)
    c.self.view_is
    (behind_or c.args.words.now.items (words_at words c.args.scope.0) c.extend_from_slice.new.self.items name
    (c.in_ok-extend_from_slice.ensures.items
    ∙ ap (λ vs. c.args.words.now.items ++ vs) (c.as_slice.ensures.value ∙ sym there))
    (own_or_listed inside.records.items words c.self.invariant.0.listed c.args.scope.0 n name))

pub returns-else-scope-len-clause-listed : goal.returns-else-scope-len-clause-listed
returns-else-scope-len-clause-listed c = λ n name.
    let inside = c.self.inside in
    let words = inside.words.items in
    subst (λ es. (own es n c.args.scope.0 name ≡ Nothing) ⊎ HasWord c.args.words.now.items name) c.self.view_is
    (nothing_or name (words_at words c.args.scope.0) c.args.words.now.items
    (words_past words c.args.scope.0 (omega arith))
    (own_or_listed inside.records.items words c.self.invariant.0.listed c.args.scope.0 n name))

pub returns-in_ok-extend_from_slice-clause-kept : goal.returns-in_ok-extend_from_slice-clause-kept
returns-in_ok-extend_from_slice-clause-kept c = λ name has.
    subst (λ xs. HasWord xs name) (sym c.in_ok-extend_from_slice.ensures.items)
    (HasWord_front c.args.words.now.items _ name has)

use Rattle.std.proofs.Common.{sym, ap, ◌∙◌, ◌≡◌, ◌<◌, ◌+◌, suc, length, arith}
use Rattle.name_table.specs.Search.{inherited, or_else, own}
use Rattle.name_table.specs.inner.Records.{heir_of}
use Rattle.name_table.proofs.Inheriting.{first_placed, from_first_base}
use Rattle.name_table.proofs.table.Table.step.Goals as goal

pub overflow_add-scope : goal.overflow_add-scope
overflow_add-scope c =
    let records = c.self.inside.records.items in
    let placed : c.in-Some-heir_of.heir.now.first.entry < length records =
    first_placed records c.self.invariant.0.placed c.args.place.scope.0 c.in-Some-heir_of.heir.now
    (sym (c.in-Some-heir_of.ensures ∙ ap (λ xs. heir_of xs c.args.place.scope.0) c.as_slice.ensures.value)) in
    omega arith

pub returns-in-Nothing : goal.returns-in-Nothing
returns-in-Nothing c =
    let es = c.args.self.now in
    let text = c.args.word.text.now in
    let base = c.in-Some-heir_of.heir.now.first in
    let next : base.entry + 1 ≡ suc base.entry = omega arith in
    let rest = inherited es base.token (suc base.entry) text in
    let nothing = c.in-Nothing.ensures ∙ ap (λ s. own es base.token s text) next in (
      omega arith,
      ap (λ s. inherited es base.token s text) next
          ∙ ap (λ found. or_else found rest) nothing
          ∙ from_first_base c.self.inside.records.items es c.self.view_is c.self.invariant.0.searched c.args.place.token
          c.args.place.scope.0 text c.in-Some-heir_of.heir.now
          (sym (c.in-Some-heir_of.ensures ∙ ap (λ xs. heir_of xs c.args.place.scope.0) c.as_slice.ensures.value))
          (sym c.in_default-other.ensures)
          (omega arith),
    )

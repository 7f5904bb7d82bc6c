use Rattle.std.proofs.Common.{[], refl, ap, sym, subst}
use Rattle.name_table.specs.declared.record.Heir.{Heir}
use Rattle.name_table.specs.inner.SeveralBases.{IsDone}
use Rattle.name_table.proofs.MergedBases.{done_all}
use Rattle.name_table.proofs.table.Table.heir_with.Goals as goal

pub returns-clause-merges : goal.returns-clause-merges
returns-clause-merges c =
    let es = c.args.self.now in
    let h = c.args.heir.now in
    let ok = c.in_ok-new.ensures.ok in
    done_all es c.args.inner.0 c.args.base h c.in_ok-new.field-0.value [] refl c.requires.kept c.requires.last
    (ap (λ (x : Heir). x.first) ok)
    (subst (λ xs. IsDone es c.args.inner.0 c.args.base h.others.entries xs [])
    (sym (ap (λ (x : Heir). x.others.entries) ok)) c.in_ok-others.ensures)

use Rattle.std.proofs.Common.{[], sym, subst}
use Rattle.name_table.specs.inner.Records.{AreTied, entries_in}
use Rattle.name_table.specs.inner.Shortcuts.{AreShort}
use Rattle.name_table.proofs.WaysKept.{no_ways}
use Rattle.name_table.proofs.Tied.{tied_none}
use Rattle.name_table.proofs.table.Table.new.Goals as goal

pub invariant_of-result : goal.invariant_of-result
invariant_of-result c =
    let records = c.new-2.result.items in
    let words = c.new-3.result.items in (
      subst (λ ks. AreTied ks records words) (sym c.new.ensures)
          (subst (λ rs. AreTied [] rs words) (sym c.new-2.ensures.items) (tied_none words)),
      subst (AreShort (entries_in records)) (sym c.new-4.ensures.items) (no_ways (entries_in records)),
    )

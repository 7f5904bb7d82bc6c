use Rattle.std.proofs.Common.{◌∙◌, refl, length, ap, sym, subst}
use Rattle.std.specs.List.{IsDistinct}
use Rattle.std.proofs.lemmas.List.{length-map}
use Rattle.name_table.specs.Entry.{AreDistinct, AreNested}
use Rattle.name_table.specs.inner.Records.{entry_of, key_of}
use Rattle.name_table.proofs.Lookups.{distinct}
use Rattle.name_table.proofs.Tied.{nested_entries}
use Rattle.name_table.proofs.table.Table.len.Goals as goal

pub returns-clause-count : goal.returns-clause-count
returns-clause-count c =
    let records = c.self.inside.records.items in
    c.len.ensures.len ∙ ap length c.self.invariant.0.keyed ∙ length-map records key_of
    ∙ sym (length-map records entry_of) ∙ ap length c.self.view_is

pub returns-clause-distinct : goal.returns-clause-distinct
returns-clause-distinct c =
    let records = c.self.inside.records.items in
    subst AreDistinct c.self.view_is
    (distinct _ (λ a b. refl) records (subst (IsDistinct _) c.self.invariant.0.keyed c.len.ensures.distinct))

pub returns-clause-nested : goal.returns-clause-nested
returns-clause-nested c =
    subst AreNested c.self.view_is (nested_entries c.self.inside.records.items c.self.invariant.0.nested)

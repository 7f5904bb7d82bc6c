use Rattle.std.proofs.Common.{◌≡◌, ◌∙◌, ◌++◌, ◌∷◌, [], suc, length, slice_get, nat_eq, cond, ℕ, None, Some, refl, ap, subst, sym, arith}
use Rattle.std.proofs.lemmas.List.{length-map}
use Rattle.std.proofs.lemmas.Option.{slice_get_read}
use Rattle.name_table.specs.Entry.{bases_of}
use Rattle.name_table.specs.Entries.{latest, with_base}
use Rattle.name_table.specs.inner.Records.{entries_in, entry_of}
use Rattle.name_table.specs.inner.SeveralBases.{HasNoneFrom, Merges}
use Rattle.name_table.specs.inner.Shortcuts.{way_at}
use Rattle.name_table.proofs.Inheriting.{bases_kept}
use Rattle.name_table.proofs.MoreBases.{none_from, tied_more, told_more, ways_more}
use Rattle.name_table.proofs.table.Table.add_base.Goals as goal

pub heir_for-requires-clause-last : goal.heir_for-requires-clause-last
heir_for-requires-clause-last c =
    let records = c.self.inside.records.items in
    let same : latest (entries_in records) ≡ latest c.args.self.now = ap latest c.self.view_is in
    let late = c.requires.late in
    subst (λ xs. HasNoneFrom xs c.args.inner.0 c.args.base.token) c.self.view_is
    (none_from records c.args.base.token (omega arith) c.args.inner.0)

pub invariant_of-self : goal.invariant_of-self
invariant_of-self c =
    let inside = c.self.inside in
    let records = inside.records.items in
    let e = c.in-Some.number in
    let r = c.index_mut.result.now in
    let box = c.in_ok-heir.heir in
    let same : latest (entries_in records) ≡ latest c.args.self.now = ap latest c.self.view_is in
    let late = c.requires.late in
    let base = c.args.base in
    let count : length c.args.self.now ≡ length records = sym (ap length c.self.view_is)
    ∙ length-map records entry_of in
    let is : c.args.inner.0 ≡ suc e = omega arith in
    let low = c.requires.inner in
    let placed = c.requires.placed in
    let there : slice_get records e ≡ Some r =
    slice_get_read records (length records) e r refl (omega arith) c.index_mut.ensures.value in
    let with_it = c.in_ok-heir.ensures.with_it
    ∙ ap (λ bs. bs ++ base ∷ []) (sym (ap (λ xs. bases_of xs c.args.inner.0) c.self.view_is)
    ∙ ap (bases_of (entries_in records)) is ∙ bases_kept records (suc e)) in
    let merges = subst (λ s. Merges (entries_in records) s base box.value) is
    (subst (λ xs. Merges xs c.args.inner.0 base box.value) (sym c.self.view_is) c.in_ok-heir.ensures.merges) in
    let dropped = subst (λ i. (q : ℕ) → way_at c.drop_way.new.ways.items q
    ≡ cond (nat_eq i q) None (way_at inside.shortcuts.items q)) is c.drop_way.ensures in (
      tied_more inside.keys records inside.words.items c.self.invariant.0 e r there box base with_it
          c.in_ok-heir.ensures.low (omega arith) (omega arith) merges,
      ways_more inside.keys records inside.words.items c.self.invariant.0 e r there box base with_it
          c.in_ok-heir.ensures.low (omega arith) (omega arith) merges
          inside.shortcuts.items c.drop_way.new.ways.items c.self.invariant.1 dropped,
    )

pub returns-clause-told : goal.returns-clause-told
returns-clause-told c =
    let inside = c.self.inside in
    let records = inside.records.items in
    let e = c.in-Some.number in
    let r = c.index_mut.result.now in
    let box = c.in_ok-heir.heir in
    let same : latest (entries_in records) ≡ latest c.args.self.now = ap latest c.self.view_is in
    let late = c.requires.late in
    let base = c.args.base in
    let count : length c.args.self.now ≡ length records = sym (ap length c.self.view_is)
    ∙ length-map records entry_of in
    let is : c.args.inner.0 ≡ suc e = omega arith in
    let low = c.requires.inner in
    let placed = c.requires.placed in
    let there : slice_get records e ≡ Some r =
    slice_get_read records (length records) e r refl (omega arith) c.index_mut.ensures.value in
    let with_it = c.in_ok-heir.ensures.with_it
    ∙ ap (λ bs. bs ++ base ∷ []) (sym (ap (λ xs. bases_of xs c.args.inner.0) c.self.view_is)
    ∙ ap (bases_of (entries_in records)) is ∙ bases_kept records (suc e)) in
    let merges = subst (λ s. Merges (entries_in records) s base box.value) is
    (subst (λ xs. Merges xs c.args.inner.0 base box.value) (sym c.self.view_is) c.in_ok-heir.ensures.merges) in
    told_more inside.keys records inside.words.items c.self.invariant.0 e r there box base with_it
    c.in_ok-heir.ensures.low (omega arith) (omega arith) merges
    ∙ ap (λ xs. with_base xs (suc e) base) c.self.view_is ∙ ap (λ i. with_base c.args.self.now i base) (sym is)

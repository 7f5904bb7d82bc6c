use Rattle.std.proofs.Common.{◌≡◌, ◌∙◌, ◌<◌, ◌≤◌, refl, ap, sym, subst, length, arith}
use Rattle.std.proofs.lemmas.List.{length-map}
use Rattle.name_table.specs.Entries.{latest}
use Rattle.name_table.specs.inner.Records.{entries_in, entry_of, heir_of, HasWord}
use Rattle.name_table.specs.inner.SeveralBases.{IsKept}
use Rattle.name_table.proofs.Inheriting.{first_base, first_placed}
use Rattle.name_table.proofs.Latest.{bases_low}
use Rattle.name_table.proofs.MoreBases.{kept_of}
use Rattle.name_table.proofs.Ways.{way_over}
use Rattle.name_table.proofs.table.Table.way_of.Goals as goal

pub enter-requires : goal.enter-requires
enter-requires c =
    let records = c.self.inside.records.items in
    let count : length c.args.self.now ≡ length records = sym (ap length c.self.view_is)
    ∙ length-map records entry_of in
    let placed : c.in-Some.heir.now.first.entry < length records =
    first_placed records c.self.invariant.0.placed c.args.scope.0 c.in-Some.heir.now
    (sym (c.in-Some.ensures ∙ ap (λ xs. heir_of xs c.args.scope.0) c.as_slice.ensures.value)) in
    omega arith

pub returns-clause-short : goal.returns-clause-short
returns-clause-short c =
    let es = c.args.self.now in
    let h = c.in-Some.heir.now in
    let scope = c.args.scope.0 in
    let kept : IsKept es scope h = subst (λ xs. IsKept xs scope h) c.self.view_is
    (kept_of c.self.inside.records.items c.self.invariant.0.searched scope h
    (sym (c.in-Some.ensures ∙ ap (λ xs. heir_of xs scope) c.as_slice.ensures.value))) in
    way_over es scope h c.in_ok-inside.inside c.in_ok-half.half c.in_ok-place.place
    c.list_given.new.words.items c.enter.new.words.items c.stride.new.words.items c.stride-2.new.words.items _ refl refl
    kept
    c.in_ok-list_given.ensures.listed c.in_ok-inside.ensures.kept c.in_ok-inside.ensures.leads
    c.in_ok-half.ensures.kept c.in_ok-half.ensures.passes c.in_ok-place.ensures.kept c.in_ok-place.ensures.passes
    (λ name has. c.in_ok-words.ensures name (subst (λ xs. HasWord xs name) (sym c.as_slice-2.ensures.value) has))
    c.in_ok-inside.ensures.there c.in_ok-half.ensures.low c.in_ok-place.ensures.low

pub returns-clause-low : goal.returns-clause-low
returns-clause-low c =
    let records = c.self.inside.records.items in
    let scope = c.args.scope.0 in
    let h = c.in-Some.heir.now in
    subst (λ xs. h.first.token ≤ latest xs) c.self.view_is
    (bases_low (entries_in records) scope h.first.token h.first.entry
    (first_base records scope h (sym (c.in-Some.ensures ∙ ap (λ xs. heir_of xs scope) c.as_slice.ensures.value))))

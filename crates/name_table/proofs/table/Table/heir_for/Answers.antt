use Rattle.std.proofs.Common.{◌≡◌, ◌∙◌, ◌++◌, ◌∷◌, ◌≤◌, ◌<◌, [], length, ap, sym, subst, arith}
use Rattle.std.proofs.lemmas.List.{length-map}
use Rattle.name_table.specs.Entry.{bases_of}
use Rattle.name_table.specs.inner.Records.{entries_in, entry_of, heir_of}
use Rattle.name_table.specs.inner.SeveralBases.{HasNoneFrom}
use Rattle.name_table.proofs.Inheriting.{bases_kept, first_placed, heir_list}
use Rattle.name_table.proofs.MergedBases.{ok_then}
use Rattle.name_table.proofs.MoreBases.{first_before}
use Rattle.name_table.proofs.table.Table.heir_for.Goals as goal

pub returns-in-Some-clause-low : goal.returns-in-Some-clause-low
returns-in-Some-clause-low c =
    let records = c.self.inside.records.items in
    let inner = c.args.inner.0 in
    let old = c.in-Some.old.now in
    let there = sym (c.in-Some.ensures ∙ ap (λ xs. heir_of xs inner) c.as_slice.ensures.value) in
    let last : HasNoneFrom (entries_in records) inner c.args.base.token =
    subst (λ xs. HasNoneFrom xs inner c.args.base.token) (sym c.self.view_is) c.requires.last in
    let lt = first_before records inner c.args.base.token old there last in
    let low : old.first.token ≤ c.args.base.token = omega arith in
    ok_then c.next_heir.result (λ h is. subst (λ b. b.token ≤ c.args.base.token) (sym is) low) c.next_heir.ensures.first

pub returns-in_ok-first_heir-in-None-clause-with_it : goal.returns-in_ok-first_heir-in-None-clause-with_it
returns-in_ok-first_heir-in-None-clause-with_it c =
    let records = c.self.inside.records.items in
    let inner = c.args.inner.0 in
    let none = sym (c.in-None.ensures ∙ ap (λ xs. heir_of xs inner) c.as_slice.ensures.value) in
    let bare : bases_of c.args.self.now inner ≡ [] = sym (ap (λ xs. bases_of xs inner) c.self.view_is)
    ∙ bases_kept records inner ∙ ap heir_list none in
    ap (λ b. b ∷ c.in_ok-first_heir-in-None.field-0.value.later.items) c.in_ok-first_heir-in-None.ensures.first
    ∙ ap (λ bs. c.args.base ∷ bs) c.in_ok-first_heir-in-None.ensures.later
    ∙ sym (ap (λ bs. bs ++ c.args.base ∷ []) bare)

pub next_heir-requires-clause-first : goal.next_heir-requires-clause-first
next_heir-requires-clause-first c =
    let records = c.self.inside.records.items in
    let count : length c.args.self.now ≡ length records = sym (ap length c.self.view_is)
    ∙ length-map records entry_of in
    let placed : c.in-Some.old.now.first.entry < length records =
    first_placed records c.self.invariant.0.placed c.args.inner.0 c.in-Some.old.now
    (sym (c.in-Some.ensures ∙ ap (λ xs. heir_of xs c.args.inner.0) c.as_slice.ensures.value)) in
    omega arith

pub next_heir-requires-clause-earlier : goal.next_heir-requires-clause-earlier
next_heir-requires-clause-earlier c =
    let records = c.self.inside.records.items in
    let inner = c.args.inner.0 in
    let last : HasNoneFrom (entries_in records) inner c.args.base.token =
    subst (λ xs. HasNoneFrom xs inner c.args.base.token) (sym c.self.view_is) c.requires.last in
    first_before records inner c.args.base.token c.in-Some.old.now
    (sym (c.in-Some.ensures ∙ ap (λ xs. heir_of xs inner) c.as_slice.ensures.value)) last

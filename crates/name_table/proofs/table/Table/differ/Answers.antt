use Rattle.std.proofs.Common.{◌≡◌, ◌∙◌, ◌<◌, length, sym, ap, subst, arith}
use Rattle.std.specs.List.{list_any}
use Rattle.std.proofs.lemmas.List.{length-map}
use Rattle.name_table.specs.Features.{differ_in}
use Rattle.name_table.specs.Entries.{latest}
use Rattle.name_table.specs.inner.Records.{entries_in, entry_of, heir_of}
use Rattle.name_table.specs.inner.SeveralBases.{HasNoneFrom}
use Rattle.name_table.proofs.Features.{differ_none, differ_words}
use Rattle.name_table.proofs.Inheriting.{first_placed, without_bases}
use Rattle.name_table.proofs.MoreBases.{first_before, none_from}
use Rattle.name_table.proofs.table.Table.differ.Goals as goal

pub words_to_merge-requires-clause-last : goal.words_to_merge-requires-clause-last
words_to_merge-requires-clause-last c =
    let records = c.self.inside.records.items in
    let same : latest (entries_in records) ≡ latest c.args.self.now = ap latest c.self.view_is in
    let late = c.requires.late in
    subst (λ xs. HasNoneFrom xs c.args.inner.0 c.args.base.token) c.self.view_is
    (none_from records c.args.base.token (omega arith) c.args.inner.0)

pub words_to_merge-requires-clause-first : goal.words_to_merge-requires-clause-first
words_to_merge-requires-clause-first c =
    let records = c.self.inside.records.items in
    let count : length c.args.self.now ≡ length records = sym (ap length c.self.view_is)
    ∙ length-map records entry_of in
    let placed : c.in-Some.heir.now.first.entry < length records =
    first_placed records c.self.invariant.0.placed c.args.inner.0 c.in-Some.heir.now
    (sym (c.in-Some.ensures ∙ ap (λ xs. heir_of xs c.args.inner.0) c.as_slice.ensures.value)) in
    omega arith

pub words_to_merge-requires-clause-earlier : goal.words_to_merge-requires-clause-earlier
words_to_merge-requires-clause-earlier c =
    let records = c.self.inside.records.items in
    let inner = c.args.inner.0 in
    let same : latest (entries_in records) ≡ latest c.args.self.now = ap latest c.self.view_is in
    let late = c.requires.late in
    let last = none_from records c.args.base.token (omega arith) inner in
    first_before records inner c.args.base.token c.in-Some.heir.now
    (sym (c.in-Some.ensures ∙ ap (λ xs. heir_of xs inner) c.as_slice.ensures.value)) last

pub returns-in_ok-words-in-Some : goal.returns-in_ok-words-in-Some
returns-in_ok-words-in-Some c =
    let es = c.args.self.now in
    let words = c.in_ok-words-in-Some.words.items in
    c.differ_in_some.ensures ∙ ap (list_any (λ w. differ_in es c.args.inner.0 c.args.base w.text.now))
    c.as_slice-in-Some.ensures.value
    ∙ differ_words es c.args.inner.0 c.args.base words c.in_ok-words-in-Some.ensures

pub returns-in-None : goal.returns-in-None
returns-in-None c =
    let records = c.self.inside.records.items in
    let inner = c.args.inner.0 in
    let none = sym (c.in-None.ensures ∙ ap (λ xs. heir_of xs inner) c.as_slice.ensures.value) in
    differ_none c.args.self.now inner c.args.base
    (λ name. without_bases records c.args.self.now c.self.view_is c.self.invariant.0.searched c.args.base.token
    inner name none)

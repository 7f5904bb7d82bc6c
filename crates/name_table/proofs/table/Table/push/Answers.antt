use Rattle.std.proofs.Common.{◌≡◌, ◌∙◌, ◌++◌, ◌∷◌, [], refl, ap, sym, subst, length, arith}
use Rattle.std.proofs.lemmas.List.{length-map}
use Rattle.name_table.specs.Entries.{latest}
use Rattle.name_table.specs.inner.Records.{AreTied, entries_in, entry_of}
use Rattle.name_table.specs.inner.Shortcuts.{AreShort}
use Rattle.name_table.proofs.Lookups.{position_is}
use Rattle.name_table.proofs.Tied.{entries_push, relisted, tied_push, ways_push}
use Rattle.name_table.proofs.table.Table.push.Goals as goal

pub push-requires : goal.push-requires
push-requires c =
    let inside = c.self.inside in
    let es = c.args.self.now in
    let key = c.args.added.key in
    position_is inside.keys inside.records.items es c.self.view_is c.self.invariant.0.keyed _ key.scope.0
    key.word.text.now (λ r. refl)
    ∙ c.requires.new

pub invariant_of-self-2 : goal.invariant_of-self-2
invariant_of-self-2 c =
    let inside = c.self.inside in
    let r = c.args.added in
    let records = inside.records.items in
    let count : length c.args.self.now ≡ length records = sym (ap length c.self.view_is)
    ∙ length-map records entry_of in
    let same : latest (entries_in records) ≡ latest c.args.self.now = ap latest c.self.view_is in
    let late = c.requires.late in
    let low = c.requires.scope in
    subst (λ rs. AreTied c.push.new.self rs c.list_word.new.words.items
    × AreShort (entries_in rs) inside.shortcuts.items)
    (sym (c.push_reserved.ensures.items ∙ ap (λ rs. rs ++ r ∷ []) c.in_ok-reserve.ensures.items)) (
      tied_push inside.keys records inside.words.items c.self.invariant.0 r (omega arith) c.requires.bare (omega arith)
          c.push.new.self c.in_ok-push.ensures.pushed
          c.list_word.new.words.items c.in_ok-list_word.ensures.kept c.in_ok-list_word.ensures.listed,
      ways_push inside.keys records inside.words.items c.self.invariant.0 r (omega arith) c.requires.bare (omega arith)
          inside.shortcuts.items c.self.invariant.1,
    )

pub returns-clause-added : goal.returns-clause-added
returns-clause-added c =
    let inside = c.self.inside in
    let r = c.args.added in
    ap entries_in (c.push_reserved.ensures.items ∙ ap (λ rs. rs ++ r ∷ []) c.in_ok-reserve.ensures.items)
    ∙ entries_push inside.records.items r ∙ ap (λ es. es ++ entry_of r ∷ []) c.self.view_is

pub invariant_of-self-in_err-push : goal.invariant_of-self-in_err-push
invariant_of-self-in_err-push c =
    let inside = c.self.inside in
    subst (λ rs. AreTied c.push.new.self rs c.list_word.new.words.items
    × AreShort (entries_in rs) inside.shortcuts.items)
    (sym c.in_ok-reserve.ensures.items) (
      subst (λ ks. AreTied ks inside.records.items c.list_word.new.words.items) (sym c.in_err-push.ensures.err)
          (relisted inside.keys inside.records.items inside.words.items c.list_word.new.words.items c.self.invariant.0
          c.in_ok-list_word.ensures.kept),
      c.self.invariant.1,
    )

pub invariant_of-self-in_err-reserve : goal.invariant_of-self-in_err-reserve
invariant_of-self-in_err-reserve c =
    let inside = c.self.inside in
    subst (λ rs. AreTied inside.keys rs c.list_word.new.words.items × AreShort (entries_in rs) inside.shortcuts.items)
    (sym c.in_err-reserve.ensures.items) (
      relisted inside.keys inside.records.items inside.words.items c.list_word.new.words.items c.self.invariant.0
          c.in_ok-list_word.ensures.kept,
      c.self.invariant.1,
    )

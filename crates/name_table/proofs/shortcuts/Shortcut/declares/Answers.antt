use Rattle.std.proofs.Common.{◌∙◌}
use Rattle.std.specs.BTreeMap.{is_at}
use Rattle.name_table.specs.inner.Keys.{word_cmp}
use Rattle.name_table.specs.inner.Records.{is_word}
use Rattle.name_table.proofs.Orders.{any_same, word_found}
use Rattle.name_table.proofs.shortcuts.Shortcut.declares.Goals as goal

pub returns : goal.returns
returns c =
    let word = c.args.word in
    c.contains.ensures ∙ any_same (is_at (word_cmp word)) (is_word word.text.now) (word_found word)
    c.args.self.now.words.keys

use Rattle.name_table.proofs.Ways.{nothing_new}
use Rattle.name_table.proofs.table.Table.words_to_merge.Goals as goal

pub returns : goal.returns
returns c =
    nothing_new c.args.self.now c.args.inner.0 c.args.heir.now c.args.base c.in_ok-words.words.items
    c.list_given.new.words.items c.requires.kept c.requires.earlier
    c.in_ok-words.ensures c.in_ok-list_given.ensures.kept c.in_ok-list_given.ensures.listed

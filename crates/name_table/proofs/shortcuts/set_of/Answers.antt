use Rattle.std.proofs.Common.{rules}
use Rattle.std.proofs.lemmas.Result.{IfOk-weaker}
use Rattle.std.specs.BTreeSet.{IsFromIterResult}
use Rattle.name_table.specs.inner.Keys.{word_cmp}
use Rattle.name_table.proofs.Ways.{has_collected}
use Rattle.name_table.proofs.shortcuts.set_of.Goals as goal

pub returns : goal.returns
returns c = IfOk-weaker c.collect.result (IsFromIterResult word_cmp c.args.words.now) _ (has_collected c.args.words.now)
    (search rules)

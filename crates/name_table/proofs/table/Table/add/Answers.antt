use Rattle.std.proofs.Common.{◌≡◌, ◌∙◌, ap}
use Rattle.name_table.specs.Entry.{named}
use Rattle.name_table.proofs.table.Table.add.Goals as goal

pub push-requires-clause-new : goal.push-requires-clause-new
push-requires-clause-new c =
    ap (named c.args.self.now c.args.scope.0) (c.new-word.ensures ∙ c.name.ensures) ∙ c.requires.new

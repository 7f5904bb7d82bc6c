use Rattle.std.proofs.Common.{◌+◌, suc, arith}
use Rattle.name_table.proofs.Ways.{entered}
use Rattle.name_table.proofs.table.Table.enter.Goals as goal

pub returns-clause-leads : goal.returns-clause-leads
returns-clause-leads c = λ name.
    let base = c.args.base in
    entered c.args.self.now base.token (base.entry + 1) (suc base.entry) c.list_declared.new.words.items name
    (omega arith) (c.in_ok-list_declared.ensures.listed base.token name)

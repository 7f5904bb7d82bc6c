use Rattle.std.proofs.Common.{None, arith}
use Rattle.name_table.proofs.WaysKept.{ways_none, ways_set}
use Rattle.name_table.proofs.shortcuts.drop_way.Goals as goal

pub returns-then-scope-len : goal.returns-then-scope-len
returns-then-scope-len c = λ q. ways_none c.args.ways.now.items c.args.scope.0 (omega arith) q

pub returns : goal.returns
returns c = λ q. ways_set c.args.ways.now.items c.args.scope.0 None (omega arith) q

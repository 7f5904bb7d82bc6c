use Rattle.std.proofs.Common.{◌≡◌}
use Rattle.name_table.proofs.Orders.{order_from}
use Rattle.name_table.proofs.word_order.order_of.Given as goal

abbrev pub invariant-loop-place : goal.invariant-loop-place
invariant-loop-place l = order_from l.one l.other 0 ≡ order_from l.one l.other l.place

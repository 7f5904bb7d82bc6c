use Rattle.type_model.proofs.NameOrder.{KeysUpTo}
use Rattle.type_model.proofs.names.sorted.Given as goal

abbrev pub invariant-loop-place : goal.invariant-loop-place
invariant-loop-place l = KeysUpTo l.names l.place l.keys.items

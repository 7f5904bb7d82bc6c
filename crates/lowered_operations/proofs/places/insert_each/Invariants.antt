use Rattle.std.proofs.Common.{◌≡◌, drop}
use Rattle.std.specs.List.{fold}
use Rattle.lowered_operations.specs.Interfaces.{with_once}
use Rattle.lowered_operations.proofs.places.insert_each.Given as goal

abbrev pub invariant-loop-number : goal.invariant-loop-number
invariant-loop-number l = fold with_once l.all.keys (drop l.number-index l.more) ≡ fold with_once l.fn.all.keys l.more

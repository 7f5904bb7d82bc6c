use Rattle.std.proofs.Common.{All, take}
use Rattle.std.specs.Prelude.{◌≢◌}
use Rattle.idlc_c.proofs.names.find.Given as goal

abbrev pub invariant-loop-place : goal.invariant-loop-place
invariant-loop-place l = All (λ pair. pair.0 ≢ l.name) (take l.place l.table.model.names)

use Rattle.std.proofs.Common.{refl}
use Rattle.giop_types.proofs.Named.{named}
use Rattle.call_commands.proofs.choice.own.Goals as goal

pub returns-then-eq-clause-request : goal.returns-then-eq-clause-request
returns-then-eq-clause-request c = c.own_as.ensures.request (named 26 refl)

pub returns-then-eq-2-clause-request : goal.returns-then-eq-2-clause-request
returns-then-eq-2-clause-request c = c.own_as-then-eq-2.ensures.request (named 28 refl)

use Rattle.std.proofs.Common.{◌≡◌, drop}
use Rattle.broker_answers.specs.Objects.{objects_of}
use Rattle.iiop_broker.specs.inner.Fitting.{are_distinct}
use Rattle.iiop_broker.proofs.fitting.are_distinct.Given as goal

abbrev pub invariant-loop-place : goal.invariant-loop-place
invariant-loop-place l = are_distinct (objects_of l.objects) ≡ are_distinct (objects_of (drop l.place l.objects))

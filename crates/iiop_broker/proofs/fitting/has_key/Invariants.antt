use Rattle.std.proofs.Common.{◌≡◌, drop}
use Rattle.broker_answers.specs.Objects.{objects_of}
use Rattle.iiop_broker.specs.inner.Fitting.{has_key}
use Rattle.iiop_broker.proofs.fitting.has_key.Given as goal

abbrev pub invariant-loop-object : goal.invariant-loop-object
invariant-loop-object l =
    has_key l.key (objects_of l.objects) ≡ has_key l.key (objects_of (drop l.object-index l.objects))

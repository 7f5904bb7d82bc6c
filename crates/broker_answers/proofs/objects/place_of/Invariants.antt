use Rattle.std.proofs.Common.{◌≡◌, drop}
use Rattle.broker_answers.specs.Objects.{objects_of, place_from}
use Rattle.broker_answers.proofs.objects.place_of.Given as goal

abbrev pub invariant-loop-place : goal.invariant-loop-place
invariant-loop-place l =
    place_from 0 l.key (objects_of l.objects) ≡ place_from l.place l.key (objects_of (drop l.place l.objects))

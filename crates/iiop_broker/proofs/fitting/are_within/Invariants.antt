use Rattle.std.proofs.Common.{◌≡◌, drop, nat_lt}
use Rattle.std.specs.List.{list_all}
use Rattle.broker_answers.specs.Objects.{objects_of}
use Rattle.iiop_broker.proofs.fitting.are_within.Given as goal

abbrev pub invariant-loop-object : goal.invariant-loop-object
invariant-loop-object l =
    list_all (λ object. nat_lt object.1 l.count) (objects_of l.objects)
    ≡ list_all (λ object. nat_lt object.1 l.count) (objects_of (drop l.object-index l.objects))

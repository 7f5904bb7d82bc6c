use Rattle.giop_types.specs.TapeParts.{AreFront, pairs_of}
use Rattle.giop_types.proofs.tapes.reading.split_each.Given as goal

abbrev pub invariant-loop : goal.invariant-loop
invariant-loop l = AreFront l.counter l.tape (pairs_of l.all.items) l.rest

use Rattle.definition_reader.proofs.Ways.{took}
use Rattle.definition_reader.proofs.read.expressions.take_sign.Goals as goal

pub returns-in-Some-clause-way : goal.returns-in-Some-clause-way
returns-in-Some-clause-way c = took _ _ _ c.in-Some.ensures.seen c.in-Some.ensures.way

pub returns-in-Some-take-clause-way : goal.returns-in-Some-take-clause-way
returns-in-Some-take-clause-way c =
    rw (← c.in_default.ensures.missing) (took _ _ _ c.in-Some-take.ensures.seen c.in-Some-take.ensures.way)

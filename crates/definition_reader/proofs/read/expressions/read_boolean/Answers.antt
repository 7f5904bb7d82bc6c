use Rattle.std.proofs.Common.{inr}
use Rattle.definition_reader.proofs.Ways.{seen, unseen, halts_unseen, only_false}
use Rattle.definition_reader.proofs.read.expressions.read_boolean.Goals as goal

pub returns-in-Some-clause-way : goal.returns-in-Some-clause-way
returns-in-Some-clause-way c = seen _ c.in-Some.ensures.seen c.in-Some.ensures.way

pub returns-in-Some-take-clause-way : goal.returns-in-Some-take-clause-way
returns-in-Some-take-clause-way c =
    unseen _ c.in_default.ensures.unseen (rw (← c.in_default.ensures.missing) c.in-Some-take.ensures.way)

pub returns-in-None-clause-stops : goal.returns-in-None-clause-stops
returns-in-None-clause-stops c =
    halts_unseen _ c.in_default.ensures.unseen
    (rw (← c.in_default.ensures.missing) (inr (only_false _ _ c.in-None.ensures.unseen)))

use Rattle.definition_reader.proofs.Ways.{halts, tail_way, tail_stops}
use Rattle.definition_reader.proofs.read.lists.read_named.Goals as goal

pub returns-in-Err-clause-stops : goal.returns-in-Err-clause-stops
returns-in-Err-clause-stops c = halts _ c.in-Err.ensures.stops

pub returns-clause-way : goal.returns-clause-way
returns-clause-way c = tail_way _ _ _ _ c.identifier.result c.in-Ok.ensures.way c.identifier.ensures.way

pub returns-clause-stops : goal.returns-clause-stops
returns-clause-stops c = tail_stops _ _ _ c.identifier.result c.in-Ok.ensures.way c.identifier.ensures.stops

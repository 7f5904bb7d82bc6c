use Rattle.definition_reader.proofs.Ways.{halts, tail_way, ends_inside, tail_open_past}
use Rattle.definition_reader.proofs.read.types.open_sequence.Goals as goal

pub returns-in-Err-clause-stops : goal.returns-in-Err-clause-stops
returns-in-Err-clause-stops c = ends_inside _ _ _ (λ left h. halts _ c.in-Err.ensures.stops)

pub returns-clause-way : goal.returns-clause-way
returns-clause-way c = tail_way _ _ _ _ c.open.result c.in-Ok.ensures.way c.open.ensures.way

pub returns-clause-stops : goal.returns-clause-stops
returns-clause-stops c = tail_open_past _ _ (λ left u. _) _ c.open.result c.in-Ok.ensures.way c.open.ensures.stops

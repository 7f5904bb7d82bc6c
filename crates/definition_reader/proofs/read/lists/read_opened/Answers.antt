use Rattle.definition_reader.proofs.Ways.{halts, on, past}
use Rattle.definition_reader.proofs.read.lists.read_opened.Goals as goal

pub returns-in-Err-clause-stops : goal.returns-in-Err-clause-stops
returns-in-Err-clause-stops c = halts _ c.in-Err.ensures.stops

pub returns-in-Err-open-clause-stops : goal.returns-in-Err-open-clause-stops
returns-in-Err-open-clause-stops c = past _ c.in-Ok.ensures.way c.in-Err-open.ensures.stops

pub returns-clause-way : goal.returns-clause-way
returns-clause-way c = on _ c.in-Ok.ensures.way c.in-Ok-open.ensures.way

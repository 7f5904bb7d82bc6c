use Rattle.definition_reader.proofs.Ways.{halts, on, past}
use Rattle.definition_reader.proofs.read.lists.read_listed.Goals as goal

pub returns-in-Err-clause-stops : goal.returns-in-Err-clause-stops
returns-in-Err-clause-stops g c = halts _ c.in-Err.ensures.stops

pub returns-in-Err-read_rest-clause-stops : goal.returns-in-Err-read_rest-clause-stops
returns-in-Err-read_rest-clause-stops g c = past _ c.in-Ok.ensures.way c.in-Err-read_rest.ensures.stops

pub returns-clause-way : goal.returns-clause-way
returns-clause-way g c = on _ c.in-Ok.ensures.way c.in-Ok-read_rest.ensures.way

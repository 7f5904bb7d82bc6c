use Rattle.definition_reader.proofs.Ways.{halts, past, on}
use Rattle.definition_reader.proofs.read.interfaces.read_settable.Goals as goal

pub returns-in-Err-clause-stops : goal.returns-in-Err-clause-stops
returns-in-Err-clause-stops c = halts _ c.in-Err.ensures.stops

pub returns-in-Err-read_raises-clause-stops : goal.returns-in-Err-read_raises-clause-stops
returns-in-Err-read_raises-clause-stops c = past _ c.in-Ok.ensures.way c.in-Err-read_raises.ensures.stops

pub returns-in-Some-default-clause-way : goal.returns-in-Some-default-clause-way
returns-in-Some-default-clause-way c = on _ c.in-Ok.ensures.way c.in-Ok-read_raises.ensures.way

pub returns-in-None-Some-clause-way : goal.returns-in-None-Some-clause-way
returns-in-None-Some-clause-way c = on _ c.in-Ok.ensures.way c.in-Ok-read_raises.ensures.way

pub returns-in-None-None-clause-way : goal.returns-in-None-None-clause-way
returns-in-None-None-clause-way c = on _ c.in-Ok.ensures.way c.in-Ok-read_raises.ensures.way

use Rattle.definition_reader.proofs.Ways.{on, halts, past}
use Rattle.definition_reader.proofs.read.constructed.read_union_name.Goals as goal

pub returns-in-Err-clause-stops : goal.returns-in-Err-clause-stops
returns-in-Err-clause-stops c = halts _ c.in-Err.ensures.stops

pub returns-in-Err-keyword-clause-stops : goal.returns-in-Err-keyword-clause-stops
returns-in-Err-keyword-clause-stops c = past _ c.in-Ok.ensures.way (halts _ c.in-Err-keyword.ensures.stops)

pub returns-in-Err-mark-clause-stops : goal.returns-in-Err-mark-clause-stops
returns-in-Err-mark-clause-stops c =
    past _ c.in-Ok.ensures.way (past _ c.in-Ok-keyword.ensures.way (c.in-Err-mark.ensures.stops))

pub returns-clause-way : goal.returns-clause-way
returns-clause-way c = on _ c.in-Ok.ensures.way (on _ c.in-Ok-keyword.ensures.way (c.in-Ok-mark.ensures.way))

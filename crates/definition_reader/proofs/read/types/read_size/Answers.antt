use Rattle.definition_reader.proofs.Parts.{part_then}
use Rattle.definition_reader.proofs.Ways.{on, halts, past}
use Rattle.definition_reader.proofs.read.types.read_size.Goals as goal

pub returns-clause-spells : goal.returns-clause-spells
returns-clause-spells c =
    part_then (part_then c.in-Ok.ensures.read c.in-Ok-read_expr.ensures.spells) c.in-Ok-mark.ensures.read

pub returns-in-Err-clause-stops : goal.returns-in-Err-clause-stops
returns-in-Err-clause-stops c = halts _ c.in-Err.ensures.stops

pub returns-in-Err-read_expr-clause-stops : goal.returns-in-Err-read_expr-clause-stops
returns-in-Err-read_expr-clause-stops c = past _ c.in-Ok.ensures.way (halts _ c.in-Err-read_expr.ensures.stops)

pub returns-in-Err-mark-clause-stops : goal.returns-in-Err-mark-clause-stops
returns-in-Err-mark-clause-stops c =
    past _ c.in-Ok.ensures.way (past _ c.in-Ok-read_expr.ensures.way c.in-Err-mark.ensures.stops)

pub returns-clause-way : goal.returns-clause-way
returns-clause-way c = on _ c.in-Ok.ensures.way (on _ c.in-Ok-read_expr.ensures.way c.in-Ok-mark.ensures.way)

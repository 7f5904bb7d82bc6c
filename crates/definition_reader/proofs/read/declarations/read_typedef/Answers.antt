use Rattle.std.proofs.Common.{arith}
use Rattle.definition_reader.proofs.Parts.{part_then}
use Rattle.definition_reader.proofs.Ways.{on, halts, past}
use Rattle.definition_reader.proofs.read.declarations.read_typedef.Goals as goal

pub returns-clause-spells : goal.returns-clause-spells
returns-clause-spells c =
    part_then (part_then c.in-Ok.ensures.read c.in-Ok-read_type.ensures.spells) c.in-Ok-read_listed.ensures.spells

pub returns-clause-levels : goal.returns-clause-levels
returns-clause-levels c = omega (arith, c.in-Ok-read_type.ensures.levels, c.in-Ok-read_listed.ensures.levels)

pub returns-in-Err-clause-stops : goal.returns-in-Err-clause-stops
returns-in-Err-clause-stops c = halts _ c.in-Err.ensures.stops

pub returns-in-Err-read_type-clause-stops : goal.returns-in-Err-read_type-clause-stops
returns-in-Err-read_type-clause-stops c = past _ c.in-Ok.ensures.way (halts _ c.in-Err-read_type.ensures.stops)

pub returns-in-Err-read_listed-clause-stops : goal.returns-in-Err-read_listed-clause-stops
returns-in-Err-read_listed-clause-stops c =
    past _ c.in-Ok.ensures.way (past _ c.in-Ok-read_type.ensures.way (c.in-Err-read_listed.ensures.stops))

pub returns-clause-way : goal.returns-clause-way
returns-clause-way c = on _ c.in-Ok.ensures.way (on _ c.in-Ok-read_type.ensures.way (c.in-Ok-read_listed.ensures.way))

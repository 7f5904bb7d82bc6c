use Rattle.std.proofs.Common.{arith}
use Rattle.definition_reader.proofs.Parts.{part_then}
use Rattle.idl_tree.specs.DefinitionDescent.{const_way}
use Rattle.definition_reader.proofs.Ways.{on, halts, past}
use Rattle.definition_reader.proofs.read.declarations.read_const.Goals as goal

pub returns-clause-spells : goal.returns-clause-spells
returns-clause-spells c =
    part_then (part_then (part_then (part_then c.in-Ok.ensures.read c.in-Ok-read_const_type.ensures.spells)
    c.in-Ok-identifier.ensures.read) c.in-Ok-mark.ensures.read) c.in-Ok-read_expr.ensures.spells

pub returns-clause-levels : goal.returns-clause-levels
returns-clause-levels c = omega (arith, c.in-Ok-read_const_type.ensures.levels, c.in-Ok-read_expr.ensures.levels)

pub returns-in-Err-clause-stops : goal.returns-in-Err-clause-stops
unfolding const_way
returns-in-Err-clause-stops c = halts _ c.in-Err.ensures.stops

pub returns-in-Err-read_const_type-clause-stops : goal.returns-in-Err-read_const_type-clause-stops
unfolding const_way
returns-in-Err-read_const_type-clause-stops c =
    past _ c.in-Ok.ensures.way (halts _ c.in-Err-read_const_type.ensures.stops)

pub returns-in-Err-identifier-clause-stops : goal.returns-in-Err-identifier-clause-stops
unfolding const_way
returns-in-Err-identifier-clause-stops c =
    past _ c.in-Ok.ensures.way (past _ c.in-Ok-read_const_type.ensures.way (halts _ c.in-Err-identifier.ensures.stops))

pub returns-in-Err-mark-clause-stops : goal.returns-in-Err-mark-clause-stops
unfolding const_way
returns-in-Err-mark-clause-stops c =
    past _ c.in-Ok.ensures.way
    (past _ c.in-Ok-read_const_type.ensures.way
    (past _ c.in-Ok-identifier.ensures.way (halts _ c.in-Err-mark.ensures.stops)))

pub returns-in-Err-read_expr-clause-stops : goal.returns-in-Err-read_expr-clause-stops
unfolding const_way
returns-in-Err-read_expr-clause-stops c =
    past _ c.in-Ok.ensures.way
    (past _ c.in-Ok-read_const_type.ensures.way
    (past _ c.in-Ok-identifier.ensures.way (past _ c.in-Ok-mark.ensures.way (c.in-Err-read_expr.ensures.stops))))

pub returns-clause-way : goal.returns-clause-way
unfolding const_way
returns-clause-way c = on _ c.in-Ok.ensures.way
    (on _ c.in-Ok-read_const_type.ensures.way
    (on _ c.in-Ok-identifier.ensures.way (on _ c.in-Ok-mark.ensures.way (c.in-Ok-read_expr.ensures.way))))

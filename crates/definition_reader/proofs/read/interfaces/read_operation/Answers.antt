use Rattle.definition_reader.proofs.Parts.{part_then, part_then_more, more_then_part}
use Rattle.idl_tree.specs.DefinitionDescent.{operation_way}
use Rattle.definition_reader.proofs.Ways.{on, halts, past}
use Rattle.definition_reader.proofs.read.interfaces.read_operation.Goals as goal

pub returns-clause-spells : goal.returns-clause-spells
returns-clause-spells c =
    let named = part_then (more_then_part c.take_oneway-is_oneway.ensures.spells c.in-Ok.ensures.spells)
    c.in-Ok-identifier.ensures.read in
    let listed = part_then (part_then_more (part_then named c.in-Ok-mark.ensures.read)
    c.in-Ok-read_params.ensures.spells) c.in-Ok-mark-2.ensures.read in
    part_then_more listed c.in-Ok-read_raises.ensures.spells

pub returns-in-Err-clause-stops : goal.returns-in-Err-clause-stops
unfolding operation_way
returns-in-Err-clause-stops c = past _ c.take_oneway-is_oneway.ensures.way (halts _ c.in-Err.ensures.stops)

pub returns-in-Err-identifier-clause-stops : goal.returns-in-Err-identifier-clause-stops
unfolding operation_way
returns-in-Err-identifier-clause-stops c =
    past _ c.take_oneway-is_oneway.ensures.way (past _ c.in-Ok.ensures.way (halts _ c.in-Err-identifier.ensures.stops))

pub returns-in-Err-mark-clause-stops : goal.returns-in-Err-mark-clause-stops
unfolding operation_way
returns-in-Err-mark-clause-stops c =
    past _ c.take_oneway-is_oneway.ensures.way
    (past _ c.in-Ok.ensures.way (past _ c.in-Ok-identifier.ensures.way (halts _ c.in-Err-mark.ensures.stops)))

pub returns-in-Err-read_params-clause-stops : goal.returns-in-Err-read_params-clause-stops
unfolding operation_way
returns-in-Err-read_params-clause-stops c =
    past _ c.take_oneway-is_oneway.ensures.way
    (past _ c.in-Ok.ensures.way
    (past _ c.in-Ok-identifier.ensures.way
    (past _ c.in-Ok-mark.ensures.way (halts _ c.in-Err-read_params.ensures.stops))))

pub returns-in-Err-mark-2-clause-stops : goal.returns-in-Err-mark-2-clause-stops
unfolding operation_way
returns-in-Err-mark-2-clause-stops c =
    past _ c.take_oneway-is_oneway.ensures.way
    (past _ c.in-Ok.ensures.way
    (past _ c.in-Ok-identifier.ensures.way
    (past _ c.in-Ok-mark.ensures.way (past _ c.in-Ok-read_params.ensures.way (halts _ c.in-Err-mark-2.ensures.stops)))))

pub returns-in-Err-read_raises-clause-stops : goal.returns-in-Err-read_raises-clause-stops
unfolding operation_way
returns-in-Err-read_raises-clause-stops c =
    past _ c.take_oneway-is_oneway.ensures.way
    (past _ c.in-Ok.ensures.way
    (past _ c.in-Ok-identifier.ensures.way
    (past _ c.in-Ok-mark.ensures.way
    (past _ c.in-Ok-read_params.ensures.way (past _ c.in-Ok-mark-2.ensures.way (c.in-Err-read_raises.ensures.stops))))))

pub returns-clause-way : goal.returns-clause-way
unfolding operation_way
returns-clause-way c = on _ c.take_oneway-is_oneway.ensures.way
    (on _ c.in-Ok.ensures.way
    (on _ c.in-Ok-identifier.ensures.way
    (on _ c.in-Ok-mark.ensures.way
    (on _ c.in-Ok-read_params.ensures.way (on _ c.in-Ok-mark-2.ensures.way (c.in-Ok-read_raises.ensures.way))))))

use Rattle.idl_tree.specs.DefinitionDescent.{param_way}
use Rattle.definition_reader.proofs.Ways.{on, halts, past}
use Rattle.definition_reader.proofs.read.interfaces.ParamPart.read.Goals as goal

pub returns-in-Err-clause-stops : goal.returns-in-Err-clause-stops
unfolding param_way
returns-in-Err-clause-stops c = halts _ c.in-Err.ensures.stops

pub returns-in-Err-read_param_type-clause-stops : goal.returns-in-Err-read_param_type-clause-stops
unfolding param_way
returns-in-Err-read_param_type-clause-stops c =
    past _ c.in-Ok.ensures.way (halts _ c.in-Err-read_param_type.ensures.stops)

pub returns-in-Err-identifier-clause-stops : goal.returns-in-Err-identifier-clause-stops
unfolding param_way
returns-in-Err-identifier-clause-stops c =
    past _ c.in-Ok.ensures.way (past _ c.in-Ok-read_param_type.ensures.way (c.in-Err-identifier.ensures.stops))

pub returns-clause-way : goal.returns-clause-way
unfolding param_way
returns-clause-way c = on _ c.in-Ok.ensures.way
    (on _ c.in-Ok-read_param_type.ensures.way (c.in-Ok-identifier.ensures.way))

use Rattle.definition_reader.proofs.Parts.{part_then_more}
use Rattle.idl_tree.specs.Descent.{declarator_way}
use Rattle.definition_reader.proofs.Ways.{on, halts, past}
use Rattle.definition_reader.proofs.read.types.read_declarator.Goals as goal

pub returns-clause-spells : goal.returns-clause-spells
returns-clause-spells c = part_then_more (c.in-Ok.ensures.read) c.in-Ok-read_sizes.ensures.spells

pub returns-in-Err-clause-stops : goal.returns-in-Err-clause-stops
unfolding declarator_way
returns-in-Err-clause-stops c = halts _ c.in-Err.ensures.stops

pub returns-in-Err-read_sizes-clause-stops : goal.returns-in-Err-read_sizes-clause-stops
unfolding declarator_way
returns-in-Err-read_sizes-clause-stops c = past _ c.in-Ok.ensures.way c.in-Err-read_sizes.ensures.stops

pub returns-clause-way : goal.returns-clause-way
unfolding declarator_way
returns-clause-way c = on _ c.in-Ok.ensures.way c.in-Ok-read_sizes.ensures.way

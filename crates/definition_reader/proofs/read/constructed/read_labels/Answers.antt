use Rattle.definition_reader.proofs.Parts.{part_then_more}
use Rattle.definition_reader.proofs.Ways.{on, halts, past}
use Rattle.definition_reader.proofs.read.constructed.read_labels.Goals as goal

pub returns-clause-spells : goal.returns-clause-spells
returns-clause-spells c = part_then_more (c.in-Ok.ensures.spells) c.in-Ok-read_more_labels.ensures.spells

pub returns-in-Err-clause-stops : goal.returns-in-Err-clause-stops
returns-in-Err-clause-stops c = halts _ c.in-Err.ensures.stops

pub returns-in-Err-read_more_labels-clause-stops : goal.returns-in-Err-read_more_labels-clause-stops
returns-in-Err-read_more_labels-clause-stops c = past _ c.in-Ok.ensures.way (c.in-Err-read_more_labels.ensures.stops)

pub returns-clause-way : goal.returns-clause-way
returns-clause-way c = on _ c.in-Ok.ensures.way (c.in-Ok-read_more_labels.ensures.way)

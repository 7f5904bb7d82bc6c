use Rattle.definition_reader.proofs.Ways.{on, halts, past}
use Rattle.definition_reader.proofs.read.expressions.read_text.Goals as goal

pub returns-in-Err-clause-stops : goal.returns-in-Err-clause-stops
returns-in-Err-clause-stops c = halts _ c.in-Err.ensures.stops

pub returns-in-Err-read_texts-clause-stops : goal.returns-in-Err-read_texts-clause-stops
returns-in-Err-read_texts-clause-stops c = past _ c.in-Ok.ensures.way c.in-Err-read_texts.ensures.stops

pub returns-clause-way : goal.returns-clause-way
returns-clause-way c = on _ c.in-Ok.ensures.way c.in-Ok-read_texts.ensures.way

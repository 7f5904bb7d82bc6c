use Rattle.std.proofs.Common.{inr}
use Rattle.definition_reader.proofs.Ways.{only_false}
use Rattle.definition_reader.proofs.cursor.Cursor.leaf.Goals as goal

pub returns-in-None-clause-stops : goal.returns-in-None-clause-stops
returns-in-None-clause-stops c = inr (only_false _ _ c.in-None.ensures.unseen)

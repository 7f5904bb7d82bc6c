use Rattle.std.proofs.Common.{inr}
use Rattle.definition_reader.proofs.Ways.{only_false}
use Rattle.definition_reader.proofs.cursor.Cursor.mark.Goals as goal

pub returns-else-take_mark-clause-stops : goal.returns-else-take_mark-clause-stops
returns-else-take_mark-clause-stops c = inr (only_false _ _ c.if-take_mark.ensures.unseen)

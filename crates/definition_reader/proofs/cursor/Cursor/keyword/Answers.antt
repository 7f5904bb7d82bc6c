use Rattle.std.proofs.Common.{inr}
use Rattle.definition_reader.proofs.Ways.{only_false}
use Rattle.definition_reader.proofs.cursor.Cursor.keyword.Goals as goal

pub returns-else-take_keyword-clause-stops : goal.returns-else-take_keyword-clause-stops
returns-else-take_keyword-clause-stops c = inr (only_false _ _ c.if-take_keyword.ensures.unseen)

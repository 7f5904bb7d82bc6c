use Rattle.std.proofs.Common.{inr}
use Rattle.definition_reader.proofs.Ways.{ends_inside, only_false, stops_closed}
use Rattle.definition_reader.proofs.cursor.Cursor.open.Goals as goal

pub returns-in_default-clause-stops : goal.returns-in_default-clause-stops
returns-in_default-clause-stops c = ends_inside _ _ _ (λ left h. inr (only_false _ _ c.in_default.ensures.unseen))

pub returns-clause-stops : goal.returns-clause-stops
returns-clause-stops c = stops_closed _ _ c.inside.result c.inside.ensures.none

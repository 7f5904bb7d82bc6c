use Rattle.std.proofs.Common.{inr}
use Rattle.definition_reader.proofs.Ways.{only_false, ends_at, tail_way, tail_stops}
use Rattle.definition_reader.proofs.cursor.Cursor.right_shift.Goals as goal

pub returns-then-not-take_touching-clause-stops : goal.returns-then-not-take_touching-clause-stops
returns-then-not-take_touching-clause-stops c =
    ends_at _ _ _ (inr (only_false _ _ c.if-not-take_touching.ensures.unseen))

pub returns-clause-way : goal.returns-clause-way
returns-clause-way c = tail_way _ _ _ _ c.mark.result c.if-not-take_touching.ensures.way c.mark.ensures.way

pub returns-clause-stops : goal.returns-clause-stops
returns-clause-stops c = tail_stops _ _ _ c.mark.result c.if-not-take_touching.ensures.way c.mark.ensures.stops

use Rattle.std.proofs.Common.{◌∙◌, sym}
use Rattle.definition_reader.proofs.Ways.{over_is}
use Rattle.definition_reader.proofs.cursor.Cursor.is_at_end.Goals as goal

pub returns-clause-over : goal.returns-clause-over
returns-clause-over c = rw (← c.self.view_is)
    (c.is_empty.ensures ∙ sym (over_is c.self.inside.number c.self.inside.rest.now))

use Rattle.std.proofs.Common.{sym, ◌∙◌}
use Rattle.definition_reader.proofs.Ways.{third_sees, no_third}
use Rattle.definition_reader.proofs.cursor.Cursor.is_ahead.Goals as goal

pub returns-in-Some : goal.returns-in-Some
returns-in-Some c =
    let found = c.in-Some.ensures.lookup in
    rw (← c.self.view_is) (c.is_this.ensures
    ∙ sym (third_sees c.self.inside.number c.self.inside.rest.now c.in-Some.third.now found.3.0 found.1))

pub returns-in-None : goal.returns-in-None
returns-in-None c = rw (← c.self.view_is)
    (sym (no_third c.self.inside.number c.self.inside.rest.now c.in-None.ensures.lookup.3))

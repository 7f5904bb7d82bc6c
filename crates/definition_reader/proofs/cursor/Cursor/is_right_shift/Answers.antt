use Rattle.std.proofs.Common.{sym, ◌∙◌, arith}
use Rattle.std.specs.Prelude.{codes}
use Rattle.definition_reader.proofs.Ways.{shift_seen, shift_unseen, one_touches_not}
use Rattle.definition_reader.proofs.cursor.Cursor.is_right_shift.Goals as goal

pub returns-in-Some : goal.returns-in-Some
returns-in-Some c =
    let next = c.in-Some.ensures.lookup in
    rw (← c.self.view_is) (c.is_this.ensures
    ∙ sym (shift_seen c.self.inside.number c.self.inside.rest.now c.in-Some.second.now
    (rw (c.self.view_is) (sym c.is_touching.ensures ∙ c.if-not-is_touching.false)) next.3.0 next.1))

pub returns-in-None : goal.returns-in-None
returns-in-None c = rw (← c.self.view_is)
    (sym (shift_unseen _ (one_touches_not (codes ">") c.self.inside.number c.self.inside.rest.now
    c.in-None.ensures.lookup.3)))

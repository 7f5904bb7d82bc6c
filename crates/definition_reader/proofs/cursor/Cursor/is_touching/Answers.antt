use Rattle.std.proofs.Common.{sym, ◌∙◌, arith}
use Rattle.std.specs.Prelude.{codes}
use Rattle.definition_reader.proofs.Ways.{touches, touches_not, one_touches_not}
use Rattle.definition_reader.proofs.cursor.Cursor.is_touching.Goals as goal

pub returns-in_default : goal.returns-in_default
returns-in_default c = rw (← c.self.view_is)
    (sym (one_touches_not (codes ">") c.self.inside.number c.self.inside.rest.now
    (omega (arith, c.in_default.ensures.item.3))))

pub returns-in_default-get : goal.returns-in_default-get
returns-in_default-get c =
    rw (← c.self.view_is) (sym
    (one_touches_not (codes ">") c.self.inside.number c.self.inside.rest.now c.in_default-get.ensures.lookup.3))

pub returns-then-is_this : goal.returns-then-is_this
returns-then-is_this c =
    let next = c.in-Some-get.ensures.lookup in
    rw (← c.self.view_is) (c.touches.ensures
    ∙ sym (touches (codes ">") c.self.inside.number c.self.inside.rest.now c.in-Some.first.now
    c.in-Some-get.second.now c.in-Some.ensures.item.1 next.3.0 next.1 (sym c.is_this.ensures ∙ c.if-is_this.true)))

pub returns-else-is_this : goal.returns-else-is_this
returns-else-is_this c =
    let next = c.in-Some-get.ensures.lookup in
    rw (← c.self.view_is) (c.if-is_this.false
    ∙ sym (touches_not (codes ">") c.self.inside.number c.self.inside.rest.now c.in-Some.first.now
    c.in-Some-get.second.now c.in-Some.ensures.item.1 next.3.0 next.1 (sym c.is_this.ensures ∙ c.if-is_this.false)))

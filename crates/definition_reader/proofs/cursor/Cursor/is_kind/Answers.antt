use Rattle.std.proofs.Common.{sym, ◌∙◌}
use Rattle.definition_reader.proofs.Ways.{first_sees_kind, none_sees_kind}
use Rattle.definition_reader.proofs.cursor.Cursor.is_kind.Goals as goal

pub returns-in-Some : goal.returns-in-Some
returns-in-Some c =
    let found = c.in-Some.ensures.item in
    rw (← c.self.view_is) (c.is_of.ensures
    ∙ sym (first_sees_kind c.args.kind c.self.inside.number c.self.inside.rest.now c.in-Some.token.now found.3.0
    found.1))

pub returns-in-None : goal.returns-in-None
returns-in-None c = rw (← c.self.view_is)
    (sym (none_sees_kind c.args.kind c.self.inside.number c.self.inside.rest.now c.in-None.ensures.item.3))

use Rattle.std.proofs.Common.{refl, sym, ◌∙◌}
use Rattle.definition_reader.proofs.Reading.{kept_read}
use Rattle.definition_reader.proofs.Ways.{first_sees_kind, none_sees_kind, first_behind, only_true, kind_is}
use Rattle.definition_reader.proofs.cursor.Cursor.take_leaf.Goals as goal

pub returns-in_default-clause-unseen : goal.returns-in_default-clause-unseen
returns-in_default-clause-unseen c =
    rw (← c.self.view_is) (none_sees_kind c.args.kind c.self.inside.number c.self.inside.rest.now
    c.in_default.ensures.item.3)

pub returns-then-not-is_of-clause-unseen : goal.returns-then-not-is_of-clause-unseen
returns-then-not-is_of-clause-unseen c =
    let found = c.in-Some.ensures.item in
    rw (← c.self.view_is) (first_sees_kind c.args.kind c.self.inside.number c.self.inside.rest.now c.in-Some.token.now
    found.3.0 found.1 ∙ sym c.is_of.ensures ∙ c.if-not-is_of.true)

pub returns-clause-seen : goal.returns-clause-seen
returns-clause-seen c =
    let found = c.in-Some.ensures.item in
    rw (← c.self.view_is) (first_sees_kind c.args.kind c.self.inside.number c.self.inside.rest.now c.in-Some.token.now
    found.3.0 found.1 ∙ sym c.is_of.ensures ∙ c.if-not-is_of.false)

pub returns-clause-way : goal.returns-clause-way
returns-clause-way c =
    let found = c.in-Some.ensures.item in
    only_true _ _ _ (returns-clause-seen c)
    (rw (← c.self.view_is) (first_behind c.self.inside.number c.self.inside.rest.now found.3.0))

pub returns-clause-read : goal.returns-clause-read
returns-clause-read c =
    let token = c.in-Some.token.now in
    let found = c.in-Some.ensures.item in
    let same = kind_is c.args.kind token (sym c.is_of.ensures ∙ c.if-not-is_of.false) in
    rw (← c.self.view_is) (kept_read c.self.inside.number c.self.inside.rest.now c.args.kind token.text.now
    (record { token = c.in-Some.token.now; number = c.self.inside.number }) found.3.0 found.1 same refl refl)

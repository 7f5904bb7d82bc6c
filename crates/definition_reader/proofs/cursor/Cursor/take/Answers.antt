use Rattle.std.proofs.Common.{refl, sym, ◌∙◌}
use Rattle.definition_reader.proofs.Reading.{plain_read, kept_read}
use Rattle.definition_reader.proofs.Ways.{first_sees, none_sees, first_behind, only_true, token_is}
use Rattle.definition_reader.proofs.cursor.Cursor.take.Goals as goal

pub returns-in_default-clause-unseen : goal.returns-in_default-clause-unseen
returns-in_default-clause-unseen c =
    rw (← c.self.view_is) (none_sees c.args.kind c.args.text.now c.self.inside.number c.self.inside.rest.now
    c.in_default.ensures.item.3)

pub returns-then-not-is_this-clause-unseen : goal.returns-then-not-is_this-clause-unseen
returns-then-not-is_this-clause-unseen c =
    let found = c.in-Some.ensures.item in
    rw (← c.self.view_is) (first_sees c.args.kind c.args.text.now c.self.inside.number c.self.inside.rest.now
    c.in-Some.token.now found.3.0 found.1 ∙ sym c.is_this.ensures ∙ c.if-not-is_this.true)

pub returns-clause-seen : goal.returns-clause-seen
returns-clause-seen c =
    let found = c.in-Some.ensures.item in
    rw (← c.self.view_is) (first_sees c.args.kind c.args.text.now c.self.inside.number c.self.inside.rest.now
    c.in-Some.token.now found.3.0 found.1 ∙ sym c.is_this.ensures ∙ c.if-not-is_this.false)

pub returns-clause-way : goal.returns-clause-way
returns-clause-way c =
    let found = c.in-Some.ensures.item in
    only_true _ _ _ (returns-clause-seen c)
    (rw (← c.self.view_is) (first_behind c.self.inside.number c.self.inside.rest.now found.3.0))

pub returns-clause-plain : goal.returns-clause-plain
returns-clause-plain c =
    let token = c.in-Some.token.now in
    let found = c.in-Some.ensures.item in
    let same = token_is c.args.kind c.args.text.now token (sym c.is_this.ensures ∙ c.if-not-is_this.false) in
    rw (← c.self.view_is) (plain_read c.self.inside.number c.self.inside.rest.now token c.args.kind c.args.text.now
    found.3.0 found.1 same.0 same.1)

pub returns-clause-kept : goal.returns-clause-kept
returns-clause-kept c =
    let token = c.in-Some.token.now in
    let found = c.in-Some.ensures.item in
    let same = token_is c.args.kind c.args.text.now token (sym c.is_this.ensures ∙ c.if-not-is_this.false) in
    rw (← c.self.view_is) (kept_read c.self.inside.number c.self.inside.rest.now c.args.kind c.args.text.now
    (record { token = c.in-Some.token.now; number = c.self.inside.number }) found.3.0 found.1 same.0 same.1 refl)

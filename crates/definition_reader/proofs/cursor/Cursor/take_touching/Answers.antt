use Rattle.std.proofs.Common.{◌≡◌, length, sym, ◌∙◌, arith}
use Rattle.std.specs.Prelude.{codes}
use Rattle.std.proofs.lemmas.Bool.Decides.{Decides-eqb}
use Rattle.definition_reader.proofs.Ways.{touching_taken, first_behind, only_true, some_touch, one_touches_not}
use Rattle.definition_reader.proofs.cursor.Cursor.take_touching.Goals as goal

pub returns-then-is_empty-clause-unseen : goal.returns-then-is_empty-clause-unseen
returns-then-is_empty-clause-unseen c =
    let none : length c.self.inside.rest.now ≡ 0 =
    (Decides-eqb (length c.self.inside.rest.now) 0).0 (sym c.is_empty.ensures ∙ c.if-is_empty.true) in
    rw (← c.self.view_is) (one_touches_not (codes ">") c.self.inside.number c.self.inside.rest.now
    (omega (arith, none)))

pub returns-clause-way : goal.returns-clause-way
returns-clause-way c =
    let seen = sym c.is_touching.ensures ∙ c.if-not-is_touching.false in
    let two = some_touch (codes ">") c.self.inside.number c.self.inside.rest.now (rw (c.self.view_is) seen) in
    only_true _ _ _ seen (rw (← c.self.view_is)
    (first_behind c.self.inside.number c.self.inside.rest.now (omega (arith, two))))

pub returns-clause-read : goal.returns-clause-read
returns-clause-read c =
    rw (← c.self.view_is) (touching_taken (codes ">") c.self.inside.number c.self.inside.rest.now
    (rw (c.self.view_is) (sym c.is_touching.ensures ∙ c.if-not-is_touching.false)))

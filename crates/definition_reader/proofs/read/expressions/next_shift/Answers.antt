use Rattle.idl_tree.specs.Descent.{if_seen}
use Rattle.idl_tree.specs.declared.expression.Operator.TheVariants.{ShiftRight}
use Rattle.std.proofs.Common.{None, ◌∙◌, sym, ap, refl}
use Rattle.definition_reader.proofs.Ways.{first_case, other_case, shift_at, and_on, and_off}
use Rattle.definition_reader.proofs.read.expressions.next_shift.Goals as goal

pub returns-then-is_operator : goal.returns-then-is_operator
returns-then-is_operator c = first_case _ _ _ (sym c.is_operator.ensures ∙ c.if-is_operator.true)
    ∙ sym (shift_at c.args.shifts c.args.cursor.now)

pub returns-then-not-shifts : goal.returns-then-not-shifts
returns-then-not-shifts c =
    other_case _ _ _ _ (sym c.is_operator.ensures ∙ c.if-is_operator.false)
    (other_case _ _ _ _ (and_off _ _ c.if-not-shifts.true) refl) ∙ sym (shift_at c.args.shifts c.args.cursor.now)

pub returns : goal.returns
returns c = other_case _ _ _ _ (sym c.is_operator.ensures ∙ c.if-is_operator.false)
    (c.next_of.ensures ∙ ap (λ b. if_seen b ShiftRight None) (sym (and_on _ _ c.if-not-shifts.false)))
    ∙ sym (shift_at c.args.shifts c.args.cursor.now)

use Rattle.std.proofs.Common.{◌≡◌, ◌≢◌, ◌∙◌, refl, sym, ap}
use Rattle.idl_tree.specs.declared.expression.Operator.{Operator}
use Rattle.idl_tree.specs.declared.expression.Operator.TheVariants.{ShiftRight}
use Rattle.idl_tree.proofs.YieldLengths.{marks_of, operator_length}
use Rattle.idl_tree.proofs.counts.operator_tokens.Goals as goal

one_mark : (o : Operator) → o ≢ ShiftRight → 1 ≡ marks_of o
one_mark ShiftRight h = absurd (h refl)
one_mark _ h = refl

pub returns-in-ShiftRight : goal.returns-in-ShiftRight
returns-in-ShiftRight c = ap marks_of (sym c.in-ShiftRight.is) ∙ sym (operator_length c.args.operator)

pub returns-in_default : goal.returns-in_default
returns-in_default c = one_mark c.args.operator c.in_default.not-ShiftRight ∙ sym (operator_length c.args.operator)

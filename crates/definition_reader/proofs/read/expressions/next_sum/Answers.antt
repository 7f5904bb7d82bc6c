use Rattle.std.proofs.Common.{◌∙◌, sym}
use Rattle.definition_reader.proofs.Ways.{first_case, other_case, sum_at}
use Rattle.definition_reader.proofs.read.expressions.next_sum.Goals as goal

pub returns-then-is_operator : goal.returns-then-is_operator
returns-then-is_operator c = first_case _ _ _ (sym c.is_operator.ensures ∙ c.if-is_operator.true)
    ∙ sym (sum_at c.args.shifts c.args.cursor.now)

pub returns : goal.returns
returns c = other_case _ _ _ _ (sym c.is_operator.ensures ∙ c.if-is_operator.false) c.next_of.ensures
    ∙ sym (sum_at c.args.shifts c.args.cursor.now)

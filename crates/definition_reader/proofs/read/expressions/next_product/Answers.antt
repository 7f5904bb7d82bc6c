use Rattle.std.proofs.Common.{◌∙◌, sym}
use Rattle.definition_reader.proofs.Ways.{first_case, other_case, product_at}
use Rattle.definition_reader.proofs.read.expressions.next_product.Goals as goal

pub returns-then-is_operator : goal.returns-then-is_operator
returns-then-is_operator c = first_case _ _ _ (sym c.is_operator.ensures ∙ c.if-is_operator.true)
    ∙ sym (product_at c.args.shifts c.args.cursor.now)

pub returns-then-is_operator-2 : goal.returns-then-is_operator-2
returns-then-is_operator-2 c =
    other_case _ _ _ _ (sym c.is_operator.ensures ∙ c.if-is_operator.false)
    (first_case _ _ _ (sym c.is_operator-2.ensures ∙ c.if-is_operator-2.true))
    ∙ sym (product_at c.args.shifts c.args.cursor.now)

pub returns : goal.returns
returns c = other_case _ _ _ _ (sym c.is_operator.ensures ∙ c.if-is_operator.false)
    (other_case _ _ _ _ (sym c.is_operator-2.ensures ∙ c.if-is_operator-2.false) c.next_of.ensures)
    ∙ sym (product_at c.args.shifts c.args.cursor.now)

use Rattle.idl_tree.specs.Descent.{operator_at}
use Rattle.std.proofs.Common.{◌∙◌, sym, ap}
use Rattle.definition_reader.proofs.Ways.{or_at, xor_at, and_at}
use Rattle.definition_reader.proofs.read.expressions.operator_of.Goals as goal

pub returns-in-0 : goal.returns-in-0
returns-in-0 c = c.next_of.ensures ∙ sym (or_at c.args.shifts c.args.cursor.now)
    ∙ ap (λ n. operator_at c.args.shifts n c.args.cursor.now) (sym c.in-0.is)

pub returns-in-1 : goal.returns-in-1
returns-in-1 c = c.next_of-in-1.ensures ∙ sym (xor_at c.args.shifts c.args.cursor.now)
    ∙ ap (λ n. operator_at c.args.shifts n c.args.cursor.now) (sym c.in-1.is)

pub returns-in-2 : goal.returns-in-2
returns-in-2 c = c.next_of-in-2.ensures ∙ sym (and_at c.args.shifts c.args.cursor.now)
    ∙ ap (λ n. operator_at c.args.shifts n c.args.cursor.now) (sym c.in-2.is)

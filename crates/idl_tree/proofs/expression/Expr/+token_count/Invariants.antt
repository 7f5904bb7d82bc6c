use Rattle.std.proofs.Common.{◌≡◌, ◌+◌, length, drop}
use Rattle.std.specs.List.{flat_map}
use Rattle.idl_tree.specs.Yields.{expr_yield, operand_yield}
use Rattle.idl_tree.proofs.expression.Expr.+token_count.Given as goal

-- what was counted and what is left are the whole
abbrev pub invariant-loop-part : goal.invariant-loop-part
invariant-loop-part l =
    l.count + length (flat_map operand_yield (drop l.part-index l.part-items)) ≡ length (expr_yield l.fn.self)

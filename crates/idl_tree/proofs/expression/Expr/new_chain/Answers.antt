use Rattle.std.proofs.Common.{rules, ◌≡◌, ◌++◌, ◌∙◌, suc, max, [], sym, ap, subst}
use Rattle.std.specs.List.{flat_map}
use Rattle.idl_tree.specs.Grouping.{IsOfLevel}
use Rattle.idl_tree.specs.Levels.{highest, expr_levels, operand_levels}
use Rattle.idl_tree.specs.Yields.{expr_yield, operand_yield}
use Rattle.idl_tree.proofs.Chains.{chain_yield, chain_level, chain_levels}
use Rattle.idl_tree.proofs.expression.Expr.new_chain.Goals as goal

pub returns-clause-spells : goal.returns-clause-spells
returns-clause-spells c = chain_yield c.in_ok-new.field-0 c.args.rest
    ∙ ap (λ e. expr_yield e ++ flat_map operand_yield c.args.rest.items) c.in_ok-new.ensures.ok

pub returns-clause-groups : goal.returns-clause-groups
returns-clause-groups c = λ shifts level le tighter operands.
    let some : c.args.rest.items ≡ [] → ⊥ = search rules in
    chain_level shifts level c.in_ok-new.field-0 c.args.rest le some
    (subst (IsOfLevel shifts (suc level)) (sym c.in_ok-new.ensures.ok) tighter) operands

pub returns-clause-levels : goal.returns-clause-levels
returns-clause-levels c = chain_levels c.in_ok-new.field-0 c.args.rest
    ∙ ap (λ e. max (expr_levels e) (highest operand_levels c.args.rest.items)) c.in_ok-new.ensures.ok

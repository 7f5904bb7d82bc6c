use Rattle.std.proofs.Common.{◌∙◌, ℕ, length, sym, ap, arith}
use Rattle.std.specs.List.{flat_map}
use Rattle.std.proofs.lemmas.List.{drop_all}
use Rattle.idl_tree.specs.declared.expression.Expr.{Expr}
use Rattle.idl_tree.specs.Yields.{expr_yield, operand_yield}
use Rattle.idl_tree.specs.Lists.{parts}
use Rattle.idl_tree.proofs.YieldLengths.{parenthesized_length, signed_length, chain_length, operands_from, one_length, text_length}
use Rattle.idl_tree.proofs.expression.Expr.+token_count.Goals as goal

abbrev count : Expr → ℕ
count e = length (expr_yield e)

pub overflow_add-result : goal.overflow_add-result
overflow_add-result t c =
    let whole = ap count c.in-Parenthesized.is
    ∙ parenthesized_length c.in-Parenthesized.paren c.in-Parenthesized.inner in
    let inner = c.token_count-in-Parenthesized.ensures ∙ ap count c.deref-in-Parenthesized.ensures in
    omega (arith, whole, inner, c.requires)

pub returns-in-Parenthesized : goal.returns-in-Parenthesized
returns-in-Parenthesized t c =
    let whole = ap count c.in-Parenthesized.is
    ∙ parenthesized_length c.in-Parenthesized.paren c.in-Parenthesized.inner in
    let inner = c.token_count-in-Parenthesized.ensures ∙ ap count c.deref-in-Parenthesized.ensures in
    omega (arith, whole, inner)

pub overflow_add-result-in-Signed : goal.overflow_add-result-in-Signed
overflow_add-result-in-Signed t c =
    let whole = ap count c.in-Signed.is ∙ signed_length c.in-Signed.mark c.in-Signed.sign c.in-Signed.operand in
    let inner = c.token_count-in-Signed.ensures ∙ ap count c.deref-in-Signed.ensures in
    omega (arith, whole, inner, c.requires)

pub returns-in-Signed : goal.returns-in-Signed
returns-in-Signed t c =
    let whole = ap count c.in-Signed.is ∙ signed_length c.in-Signed.mark c.in-Signed.sign c.in-Signed.operand in
    let inner = c.token_count-in-Signed.ensures ∙ ap count c.deref-in-Signed.ensures in
    omega (arith, whole, inner)

pub returns-in-Number : goal.returns-in-Number
returns-in-Number t c = one_length c.args.self.now c.in-Number.is

pub returns-in-Number-2 : goal.returns-in-Number-2
returns-in-Number-2 t c = one_length c.args.self.now c.in-Number.is

pub returns-in-Number-3 : goal.returns-in-Number-3
returns-in-Number-3 t c = one_length c.args.self.now c.in-Number.is

pub returns-in-Text : goal.returns-in-Text
returns-in-Text t c = omega (
  arith,
  ap count c.in-Text.is
      ∙ text_length c.in-Text.texts,
  ap (λ l. length (parts l)) c.deref.ensures,
  c.len.ensures,
)

pub loop-part-init : goal.loop-part-init
loop-part-init t c =
    let whole = ap count c.in-Chain.is ∙ chain_length c.in-Chain.first c.in-Chain.rest in
    let front = c.token_count-count.ensures ∙ ap count c.deref-in-Chain.ensures in
    omega (arith, whole, front, ap (λ xs. length (flat_map operand_yield xs)) c.deref-part-items.ensures.value)

pub overflow_add-count : goal.overflow_add-count
overflow_add-count t c =
    let here = operands_from c.deref-part-items.result.now c.loop-part.part-index c.part-item.result (omega arith)
    (sym c.part-item.is) in
    omega (
      arith,
      here,
      c.loop-part.invariant,
      c.operator_tokens.ensures,
      c.token_count-in-loop-part.ensures,
      c.requires,
    )

pub overflow_add-count-in-loop-part : goal.overflow_add-count-in-loop-part
overflow_add-count-in-loop-part t c =
    let here = operands_from c.deref-part-items.result.now c.loop-part.part-index c.part-item.result (omega arith)
    (sym c.part-item.is) in
    omega (
      arith,
      here,
      c.loop-part.invariant,
      c.operator_tokens.ensures,
      c.token_count-in-loop-part.ensures,
      c.requires,
    )

pub loop-part-preserved : goal.loop-part-preserved
loop-part-preserved t c =
    let here = operands_from c.deref-part-items.result.now c.loop-part.part-index c.part-item.result (omega arith)
    (sym c.part-item.is) in
    omega (arith, here, c.loop-part.invariant, c.operator_tokens.ensures, c.token_count-in-loop-part.ensures)

pub returns-after-loop-part : goal.returns-after-loop-part
returns-after-loop-part t c =
    let none = drop_all c.loop-part.part-index c.deref-part-items.result.now (omega arith) in
    omega (arith, c.loop-part.invariant, ap (λ xs. length (flat_map operand_yield xs)) none)

use Rattle.std.proofs.Common.{◌∙◌, ◌<◌, length, ap, arith, sym}
use Rattle.name_table.specs.Worth.{worth}
use Rattle.scoped_names.specs.Constants.{named_worth}
use Rattle.scoped_names.proofs.Weights.{weight, list_weight, chain_weight, weight_at}
use Rattle.scoped_names.proofs.ChainWorth.{chain_begins, chain_goes_on}
use Rattle.scoped_names.proofs.evaluation.+worth.Goals as goal

pub worth-requires : goal.worth-requires
worth-requires t c =
    let d = c.decreases in
    let whole = ap weight c.in-Parenthesized.is in
    let part = ap weight c.deref-in-Parenthesized.ensures in
    (omega (arith, d, whole, part), c.requires)

pub worth-requires-in-Signed : goal.worth-requires-in-Signed
worth-requires-in-Signed t c =
    let d = c.decreases in
    let whole = ap weight c.in-Signed.is in
    let part = ap weight c.deref-in-Signed.ensures in
    (omega (arith, d, whole, part), c.requires)

pub worth-requires-in-Chain : goal.worth-requires-in-Chain
worth-requires-in-Chain t c =
    let d = c.decreases in
    let whole = ap weight c.in-Chain.is ∙ chain_weight c.in-Chain.first c.in-Chain.rest in
    let part = ap weight c.deref-in-Chain.ensures in
    (omega (arith, d, whole, part), c.requires)

pub worth-requires-in-loop-part : goal.worth-requires-in-loop-part
worth-requires-in-loop-part t c =
    let lt : c.loop-part.part-index < length c.deref-part-items.result.now = omega arith in
    let d = c.decreases in
    let whole = ap weight c.in-Chain.is ∙ chain_weight c.in-Chain.first c.in-Chain.rest in
    let all = ap list_weight c.deref-part-items.ensures.value in
    let part = weight_at c.deref-part-items.result.now c.loop-part.part-index c.part-item.result lt (sym c.part-item.is)
    in
    (omega (arith, d, whole, all, part), c.requires)

pub loop-part-init : goal.loop-part-init
loop-part-init t c =
    let names = named_worth c.args.table.now c.args.scope.0 in
    chain_begins names c.in-Chain.first c.in-Chain.rest c.args.expr.now c.deref-in-Chain.result.now
    c.in_ok-worth-in-Chain.field-0 c.deref-part-items.result.now c.whole-value-in-Chain.result
    c.in-Chain.is c.deref-in-Chain.ensures c.deref-part-items.ensures.value c.in_ok-worth-in-Chain.ensures
    c.whole-value-in-Chain.ensures

pub loop-part-preserved : goal.loop-part-preserved
loop-part-preserved t c =
    let names = named_worth c.args.table.now c.args.scope.0 in
    let xs = c.deref-part-items.result.now in
    let k = c.loop-part.part-index in
    let lt : k < length xs = omega arith in
    chain_goes_on names xs k c.part-item.result c.loop-part.value c.in_ok-worth-in-Chain-2.field-0
    c.whole-operand.result c.joined-value.result (worth names c.args.expr.now) lt (sym c.part-item.is)
    c.loop-part.invariant c.in_ok-worth-in-Chain-2.ensures c.whole-operand.ensures c.joined-value.ensures

use Rattle.std.proofs.Common.{◌≡◌, ◌∙◌, ◌<◌, Ok, length, ap, sym, arith}
use Rattle.scoped_names.specs.Reading.{◌>>◌}
use Rattle.scoped_names.specs.Tests.{names_test, operand_test}
use Rattle.scoped_names.proofs.Readings.{all, names_told}
use Rattle.scoped_names.proofs.Weights.{weight, list_weight, chain_weight, weight_at}
use Rattle.scoped_names.proofs.evaluation.+test_names.Goals as goal

pub loop-part-init : goal.loop-part-init
loop-part-init t c =
    let es = c.args.table.now in
    let scope = c.args.scope.0 in
    let first : names_test es scope c.in-Chain.first.value ≡ Ok tt =
    sym (ap (names_test es scope) c.deref-in-Chain.ensures) ∙ c.in_ok-test_names-in-Chain.ensures in
    ap (all (operand_test es scope)) c.deref-part-items.ensures.value
    ∙ sym (ap (λ r. r >> λ u. all (operand_test es scope) c.in-Chain.rest.items) first)
    ∙ sym (names_told es scope c.in-Chain.first c.in-Chain.rest) ∙ sym (ap (names_test es scope) c.in-Chain.is)

pub test_names-requires-in-loop-part : goal.test_names-requires-in-loop-part
test_names-requires-in-loop-part t c =
    let lt : c.loop-part.part-index < length c.deref-part-items.result.now = omega arith in
    let d = c.decreases in
    let whole = ap weight c.in-Chain.is ∙ chain_weight c.in-Chain.first c.in-Chain.rest in
    let all = ap list_weight c.deref-part-items.ensures.value in
    let part = weight_at c.deref-part-items.result.now c.loop-part.part-index c.part-item.result lt (sym c.part-item.is)
    in
    (omega (arith, d, whole, all, part), c.requires)

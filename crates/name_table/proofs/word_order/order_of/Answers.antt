use Rattle.std.proofs.Common.{◌≡◌, ◌∙◌, ◌+◌, suc, get_or, ap, sym, arith}
use Rattle.std.specs.Char.{to_ascii_lowercase}
use Rattle.std.specs.Ordering.{nat_cmp}
use Rattle.name_table.proofs.Orders.{order_end, order_from, order_here, order_next}
use Rattle.name_table.proofs.word_order.order_of.Goals as goal

pub loop-place-preserved : goal.loop-place-preserved
loop-place-preserved c =
    let xs = c.args.one.now in
    let ys = c.args.other.now in
    let k = c.loop-place.place in
    let next : suc k ≡ k + 1 = omega arith in
    let is = c.cmp.ensures ∙ ap (λ x. nat_cmp x c.to_ascii_lowercase-right.result)
    c.to_ascii_lowercase-left.ensures.value
    ∙ ap (nat_cmp (to_ascii_lowercase (get_or xs k 0))) c.to_ascii_lowercase-right.ensures.value in
    c.loop-place.invariant ∙ order_next xs ys k _ c.in-Equal.is is (omega arith) (omega arith)
    ∙ ap (order_from xs ys) next

pub returns-in_default : goal.returns-in_default
returns-in_default c =
    let xs = c.args.one.now in
    let ys = c.args.other.now in
    let k = c.loop-place.place in
    let is = c.cmp.ensures ∙ ap (λ x. nat_cmp x c.to_ascii_lowercase-right.result)
    c.to_ascii_lowercase-left.ensures.value
    ∙ ap (nat_cmp (to_ascii_lowercase (get_or xs k 0))) c.to_ascii_lowercase-right.ensures.value in
    order_here xs ys k _ c.in_default.not-Equal is (omega arith) (omega arith) ∙ sym c.loop-place.invariant

pub returns : goal.returns
returns c =
    let xs = c.args.one.now in
    let ys = c.args.other.now in
    order_end xs ys c.loop-place.place _ c.cmp-2.ensures (omega arith) ∙ sym c.loop-place.invariant

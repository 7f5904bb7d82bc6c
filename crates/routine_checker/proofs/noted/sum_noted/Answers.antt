use Rattle.routine_checker.specs.Taking.{taken}
use Rattle.std.proofs.Common.{◌≡◌, ◌<◌, ◌≤◌, ◌+◌, ◌++◌, take, Some, min, get_or, refl, sym, subst, ◌∙◌, arith}
use Rattle.routine_checker.specs.inner.Kinds.{is_piece_of}
use Rattle.routine_checker.proofs.TakeLaws.{taken_none}
use Rattle.routine_checker.proofs.CountLaws.{counted_yields, took_more}
use Rattle.routine_checker.proofs.noted.sum_noted.Goals as goal

pub loop-at-init : goal.loop-at-init
loop-at-init c = (omega arith, λ graph piece noted some more. taken_none (is_piece_of piece graph) graph more)

pub loop-at-preserved : goal.loop-at-preserved
loop-at-preserved c =
    let numbers = c.args.numbers.now in
    let at = c.loop-at.at in
    let n = c.count_at-count.result in
    let fits : n ≤ 4294967295 = omega (arith, c.count_at-count.type_inv) in
    let least : c.min-least.result ≡ min c.loop-at.least n = c.min-least.ensures in
    let same : c.from-sum.result ≡ n = c.from-sum.ensures in
    let sum = c.loop-at.invariant.0 in (
      omega (arith, fits, sum, same),
      λ graph piece noted some more.
          let wanted = is_piece_of piece graph in
          let here : 0 < n = omega (arith, some, least) in
          let before : 0 < c.loop-at.least = omega (arith, some, least) in
          let counted = noted (get_or numbers at 0) (subst (λ k. 0 < k) c.count_at-count.ensures here)
          ∙ sym c.count_at-count.ensures in
          subst (λ k. taken (c.loop-at.sum + k) wanted graph (take (at + 1) numbers ++ more) ≡ Some more) (sym same)
          (took_more graph wanted numbers more at c.loop-at.sum n 0 c.loop-at-test.true
          (c.loop-at.invariant.1 graph piece noted before)
          (counted_yields graph wanted wanted (get_or numbers at 0) n refl here counted)),
    )

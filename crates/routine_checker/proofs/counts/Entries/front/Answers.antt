use Rattle.std.proofs.Common.{◌<◌, ◌≤◌, ◌-◌, get_or, refl, ◌∙◌, arith}
use Rattle.routine_checker.specs.inner.Kinds.{is_piece_of}
use Rattle.routine_checker.proofs.CountLaws.{counted_yields, front_more}
use Rattle.routine_checker.proofs.counts.Entries.front.Goals as goal

pub loop-at-preserved : goal.loop-at-preserved
loop-at-preserved c =
    let numbers = c.args.numbers.now in
    let at = c.loop-at.at in
    let n = c.of-count.result in
    let some : 0 < n = omega (arith, c.if-count-eq0.false) in
    let fits : n ≤ c.args.wanted - c.loop-at.taken = omega (arith, c.if-count-wanted.false) in
    let within = c.loop-at.invariant.0 in (
      omega (arith, fits, within),
      λ graph right more.
          let wanted = is_piece_of c.args.piece graph in
          c.loop-at.invariant.1 graph right more
          ∙ front_more graph wanted numbers more at c.args.wanted c.loop-at.taken n 0 c.loop-at-test.true
          (counted_yields graph wanted wanted (get_or numbers at 0) n refl some
          (c.of-count.ensures graph right some)) fits,
    )

use Rattle.std.proofs.Common.{◌≡◌, ◌<◌, ◌≤◌, ◌+◌, ◌-◌, ◌*◌, ◌++◌, drop, sym, ap, ap₂, ◌∙◌, arith}
use Rattle.std.proofs.lemmas.List.{take-append-drop, drop-drop}
use Rattle.routine_checker.specs.Taking.{taken}
use Rattle.routine_checker.specs.inner.Kinds.{is_piece_of}
use Rattle.routine_checker.proofs.CountLaws.{block_more}
use Rattle.routine_checker.proofs.noted.blocks_noted.Goals as goal

pub loop-at-preserved : goal.loop-at-preserved
loop-at-preserved c =
    let numbers = c.args.numbers.now in
    let at = c.loop-at.at in
    let rest = c.loop-at.rest.now in
    let block = c.split_at.result.0.now in
    let behind = c.split_at.result.1.now in
    let n = c.sum_noted-count.result in
    let wanted = c.args.wanted in
    let within = c.loop-at.invariant.0 in
    let fits : n ≤ wanted - c.loop-at.taken = omega (arith, c.if-count-from.false, c.from.ensures) in
    let some : 0 < n = omega (arith, c.if-count-eq0.false) in
    let split : rest ≡ block ++ behind = sym (take-append-drop 16 rest)
    ∙ ap₂ (λ a b. a ++ b) (sym c.split_at.ensures.front) (sym c.split_at.ensures.back) in
    let place : at * 16 + 16 ≡ (at + 1) * 16 = omega arith in (
      omega (arith, fits, within),
      c.split_at.ensures.back ∙ ap (λ l. drop 16 l) c.loop-at.invariant.1 ∙ drop-drop 16 (at * 16) numbers
          ∙ ap (λ i. drop i numbers) place,
      λ graph piece noted more.
          let of = is_piece_of piece graph in
          c.loop-at.invariant.2 graph piece noted more
          ∙ ap (λ l. taken (wanted - c.loop-at.taken) of graph (l ++ more)) split
          ∙ block_more graph of block behind more wanted c.loop-at.taken n fits
          (λ more. c.sum_noted-count.ensures graph piece noted some more),
    )

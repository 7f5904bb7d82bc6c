use Rattle.std.proofs.Common.{◌≡◌, slice_index_or, ap, ◌∙◌, arith}
use Rattle.routine_checker.specs.Sets.{from_places, gathered}
use Rattle.routine_checker.proofs.sets.left.Goals as goal

pub returns : goal.returns
unfolding gathered
returns c =
    let all : c.loop-place.place ≡ 8 = omega (arith, c.loop-place.auto.place-end, c.loop-place-test.false) in
    c.loop-place.invariant ∙ ap (λ n. from_places n c.args.set (λ p. slice_index_or c.args.exits.now p 0)) all

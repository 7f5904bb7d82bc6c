use Rattle.std.proofs.Common.{◌+◌, ◌++◌, ◌∙◌, List, ℕ, append-nil, ap, arith, length, sym}
use Rattle.reference_texts.proofs.Gaps.{none_left, one_ends}
use Rattle.reference_texts.proofs.manner.differing.Goals as goal

pub returns : goal.returns
returns c =
    let clean = c.args.clean.now in
    let front = c.args.front.now in
    let place = c.loop-place.place in
    let past = one_ends (length clean) (length front) place
    (omega (arith, c.loop-place-test.false, c.min-place-end.ensures)) in
    sym (c.loop-place.invariant
    ∙ ap (λ (l : List (ℕ × ℕ)). c.loop-place.all.items ++ l) (none_left (place + 1) place clean front past)
    ∙ append-nil c.loop-place.all.items)

use Rattle.std.proofs.Common.{◌≡◌, ◌+◌, length, false, sym, ap, ◌∙◌, subst, arith}
use Rattle.giop_dumps.specs.OpenRuns.{HasRoom, IsOldest, LetsGo, MakesRoom, Runs, has_room, without}
use Rattle.giop_dumps.proofs.RunLaws.{length-without}
use Rattle.giop_dumps.proofs.open_runs.OpenRuns.make_room.Goals as goal

pub loop-alloc-smaller : goal.loop-alloc-smaller
loop-alloc-smaller c =
    let oldest : IsOldest c.in-Some.id c.loop-alloc.self = c.in-Some.ensures.some in
    let less : length (without c.in-Some.id c.loop-alloc.self) + 1 ≡ length c.loop-alloc.self =
    length-without c.in-Some.id c.loop-alloc.self oldest.run oldest.there in
    let left : length c.take.new.self ≡ length (without c.in-Some.id c.loop-alloc.self) =
    ap length c.take.ensures.left in
    omega (arith, less, left)

pub loop-alloc-preserved : goal.loop-alloc-preserved
loop-alloc-preserved c = λ after made.
    let full : has_room c.args.len c.loop-alloc.self ≡ false = sym c.has_room.ensures ∙ c.loop-alloc-test.true in
    c.loop-alloc.invariant after
    (LetsGo c.in-Some.id c.loop-alloc.self after full c.in-Some.ensures.some
    (subst (λ (rs : Runs). MakesRoom c.args.len rs after) c.take.ensures.left made))

pub returns-clause-made : goal.returns-clause-made
returns-clause-made c =
    c.loop-alloc.invariant c.loop-alloc.self
    (HasRoom c.loop-alloc.self (sym c.has_room.ensures ∙ c.loop-alloc-test.false))

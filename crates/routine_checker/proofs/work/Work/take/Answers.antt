use Rattle.std.proofs.Common.{◌≡◌, ap, ◌∙◌, arith}
use Rattle.routine_checker.specs.Taking.{taken}
use Rattle.routine_checker.specs.inner.Work.{wants, work_of}
use Rattle.routine_checker.proofs.TakeLaws.{taken_none}
use Rattle.routine_checker.proofs.work.Work.take.Goals as goal

pub returns-clause-taken : goal.returns-clause-taken
returns-clause-taken c = λ is.
    let none : c.loop-left.left ≡ 0 = omega (arith, c.loop-left-test.false) in
    c.loop-left.invariant ∙ ap (λ n. taken n (wants c.args.wanted) c.args.wanted.nodes.now
    (work_of c.loop-left.self.items.items)) none
    ∙ taken_none (wants c.args.wanted) c.args.wanted.nodes.now (work_of c.loop-left.self.items.items)

use Rattle.std.proofs.Common.{◌≡◌, ℕ, ◌+◌, ◌-◌, ◌<◌, ◌∷◌, [], Option, Some, None, IfSome, IfNone, sym, ap, subst, ◌∙◌, arith}
use Rattle.routine_checker.specs.Taking.{is_done_within}
use Rattle.routine_checker.specs.inner.Work.{held_of, work_of}
use Rattle.routine_checker.proofs.TakeLaws.{done_nothing, done_below, done_none}
use Rattle.routine_checker.proofs.work.Work.is_done.Goals as goal

pub returns-in-None : goal.returns-in-None
returns-in-None c =
    let left_over : 0 < 64 - c.loop-level.level = omega (arith, c.loop-level-test.true) in
    let nothing = subst (λ (first : Option ℕ). IfNone first (work_of c.loop-level.self.items.items ≡ [])) c.in-None.is
    c.in_ok-number.ensures.none in
    sym (c.loop-level.invariant ∙ done_nothing (64 - c.loop-level.level) c.args.nodes.now
    (work_of c.loop-level.self.items.items) left_over nothing)

pub returns-in-None-parts_at : goal.returns-in-None-parts_at
returns-in-None-parts_at c =
    let left_over : 0 < 64 - c.loop-level.level = omega (arith, c.loop-level-test.true) in
    let first = subst (λ (first : Option ℕ). IfSome first
    (λ number. work_of c.loop-level.self.items.items ≡ number ∷ work_of c.next.new.self.items.items)) c.in-Some.is
    c.in_ok-number.ensures.some in
    sym (c.loop-level.invariant
    ∙ done_below (64 - c.loop-level.level) c.args.nodes.now (work_of c.loop-level.self.items.items)
    (work_of c.next.new.self.items.items) c.in-Some.number None left_over first c.in-None-parts_at.ensures)

pub loop-level-preserved : goal.loop-level-preserved
loop-level-preserved c =
    let left_over : 0 < 64 - c.loop-level.level = omega (arith, c.loop-level-test.true) in
    let fewer : 64 - (c.loop-level.level + 1) ≡ 64 - c.loop-level.level - 1 = omega arith in
    let first = subst (λ (first : Option ℕ). IfSome first
    (λ number. work_of c.loop-level.self.items.items ≡ number ∷ work_of c.next.new.self.items.items)) c.in-Some.is
    c.in_ok-number.ensures.some in
    c.loop-level.invariant
    ∙ done_below (64 - c.loop-level.level) c.args.nodes.now (work_of c.loop-level.self.items.items)
    (work_of c.next.new.self.items.items) c.in-Some.number (held_of (Some c.in-Some-parts_at.parts)) left_over first
    c.in-Some-parts_at.ensures
    ∙ ap (is_done_within (64 - c.loop-level.level - 1) c.args.nodes.now) (sym c.in_ok-put-in-Some-parts_at.ensures)
    ∙ sym (ap (λ n. is_done_within n c.args.nodes.now (work_of c.put.new.self.items.items)) fewer)

pub returns : goal.returns
returns c =
    let none : 64 - c.loop-level.level ≡ 0 = omega (arith, c.loop-level-test.false) in
    sym (c.loop-level.invariant ∙ ap (λ n. is_done_within n c.args.nodes.now (work_of c.loop-level.self.items.items))
    none
    ∙ done_none c.args.nodes.now (work_of c.loop-level.self.items.items))

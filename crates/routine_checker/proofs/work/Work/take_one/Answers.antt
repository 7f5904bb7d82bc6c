use Rattle.std.proofs.Common.{◌≡◌, ℕ, ◌+◌, ◌-◌, ◌<◌, ◌∷◌, ◌++◌, [], Option, Some, None, IfSome, IfNone, sym, ap, subst, ◌∙◌, arith}
use Rattle.routine_checker.specs.Taking.{taken_within}
use Rattle.routine_checker.specs.inner.Work.{wants, held, held_of, work_of}
use Rattle.routine_checker.proofs.TakeLaws.{within_nothing, within_here, within_below, within_none}
use Rattle.routine_checker.proofs.work.Work.take_one.Goals as goal

pub returns-in-None-clause-refused : goal.returns-in-None-clause-refused
returns-in-None-clause-refused c = λ is.
    let work = held c.loop-level.parts ++ work_of c.loop-level.self.items.items in
    let nothing = subst (λ (first : Option ℕ). IfNone first
    (held c.loop-level.parts ++ work_of c.loop-level.self.items.items ≡ [])) c.in-None.is
    c.in_ok-number.ensures.none in
    c.loop-level.invariant ∙ within_nothing (64 - c.loop-level.level) (wants c.args.wanted) c.args.wanted.nodes.now work
    nothing

pub returns-then-is-clause-taken : goal.returns-then-is-clause-taken
returns-then-is-clause-taken c = λ is.
    let work = held c.loop-level.parts ++ work_of c.loop-level.self.items.items in
    let left_over : 0 < 64 - c.loop-level.level = omega (arith, c.loop-level-test.true) in
    let first = subst (λ (first : Option ℕ). IfSome first
    (λ number. held c.loop-level.parts ++ work_of c.loop-level.self.items.items
    ≡ number ∷ work_of c.next_of.new.self.items.items)) c.in-Some.is c.in_ok-number.ensures.some in
    c.loop-level.invariant
    ∙ within_here (64 - c.loop-level.level) (wants c.args.wanted) c.args.wanted.nodes.now work
    (work_of c.next_of.new.self.items.items) c.in-Some.number left_over first (sym c.is.ensures ∙ c.if-is.true)

pub returns-in-None-parts_at-clause-refused : goal.returns-in-None-parts_at-clause-refused
returns-in-None-parts_at-clause-refused c = λ is.
    let work = held c.loop-level.parts ++ work_of c.loop-level.self.items.items in
    let left_over : 0 < 64 - c.loop-level.level = omega (arith, c.loop-level-test.true) in
    let first = subst (λ (first : Option ℕ). IfSome first
    (λ number. held c.loop-level.parts ++ work_of c.loop-level.self.items.items
    ≡ number ∷ work_of c.next_of.new.self.items.items)) c.in-Some.is c.in_ok-number.ensures.some in
    c.loop-level.invariant
    ∙ within_below (64 - c.loop-level.level) (wants c.args.wanted) c.args.wanted.nodes.now work
    (work_of c.next_of.new.self.items.items) c.in-Some.number None left_over first
    (sym c.is.ensures ∙ c.if-is.false) c.in-None-parts_at.ensures

pub loop-level-preserved : goal.loop-level-preserved
loop-level-preserved c =
    let work = held c.loop-level.parts ++ work_of c.loop-level.self.items.items in
    let left_over : 0 < 64 - c.loop-level.level = omega (arith, c.loop-level-test.true) in
    let fewer : 64 - (c.loop-level.level + 1) ≡ 64 - c.loop-level.level - 1 = omega arith in
    let first = subst (λ (first : Option ℕ). IfSome first
    (λ number. held c.loop-level.parts ++ work_of c.loop-level.self.items.items
    ≡ number ∷ work_of c.next_of.new.self.items.items)) c.in-Some.is c.in_ok-number.ensures.some in
    c.loop-level.invariant
    ∙ within_below (64 - c.loop-level.level) (wants c.args.wanted) c.args.wanted.nodes.now work
    (work_of c.next_of.new.self.items.items) c.in-Some.number (held_of (Some c.in-Some-parts_at.parts)) left_over
    first (sym c.is.ensures ∙ c.if-is.false) c.in-Some-parts_at.ensures
    ∙ sym (ap (λ n. taken_within n (wants c.args.wanted) c.args.wanted.nodes.now
    (held c.in-Some-parts_at.parts ++ work_of c.next_of.new.self.items.items)) fewer)

pub returns-clause-refused : goal.returns-clause-refused
returns-clause-refused c = λ is.
    let work = held c.loop-level.parts ++ work_of c.loop-level.self.items.items in
    let none : 64 - c.loop-level.level ≡ 0 = omega (arith, c.loop-level-test.false) in
    c.loop-level.invariant ∙ ap (λ n. taken_within n (wants c.args.wanted) c.args.wanted.nodes.now work) none
    ∙ within_none (wants c.args.wanted) c.args.wanted.nodes.now work

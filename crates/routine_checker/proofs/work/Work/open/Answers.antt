use Rattle.std.proofs.Common.{◌≡◌, ℕ, [], Option, IfNone, sym, ap, subst, ◌∙◌}
use Rattle.routine_checker.specs.Taking.{taken}
use Rattle.routine_checker.specs.inner.Work.{wants, work_of}
use Rattle.routine_checker.proofs.work.Work.open.Goals as goal

pub returns-in-None : goal.returns-in-None
returns-in-None c =
    let nothing = subst (λ (first : Option (ℕ × ℕ)). IfNone first (work_of c.loop-level.self.items.items ≡ []))
    c.in-None.is c.in_ok-first.ensures.none in
    let empty = subst (λ (first : Option (ℕ × ℕ)). IfNone first (work_of c.next_copies.new.self.items.items ≡ []))
    c.in-None.is c.in_ok-first.ensures.empty in
    c.loop-level.invariant ∙ ap (taken c.args.pieces (wants c.args.wanted) c.args.wanted.nodes.now)
    (nothing ∙ sym empty)

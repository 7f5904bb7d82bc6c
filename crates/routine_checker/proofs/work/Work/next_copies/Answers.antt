use Rattle.std.proofs.Common.{ℕ, List, ◌++◌, replicate, sym, ap, ◌∙◌, append_assoc}
use Rattle.routine_checker.specs.inner.Work.{held, work_of}
use Rattle.routine_checker.proofs.WorkLaws.{work_popped}
use Rattle.routine_checker.proofs.work.Work.next_copies.Goals as goal

pub loop-item-preserved : goal.loop-item-preserved
loop-item-preserved c =
    c.loop-item.invariant ∙ work_popped c.loop-item.self.items.items c.pop.new.self.items c.in-Some.item
    c.in-Some.ensures.items
    ∙ ap (λ (first : List ℕ). first ++ work_of c.pop.new.self.items) c.in_default-split.ensures.none

pub returns-in-Some-split-clause-some : goal.returns-in-Some-split-clause-some
returns-in-Some-split-clause-some c =
    c.loop-item.invariant ∙ work_popped c.loop-item.self.items.items c.pop.new.self.items c.in-Some.item
    c.in-Some.ensures.items
    ∙ ap (λ (first : List ℕ). first ++ work_of c.pop.new.self.items) c.in-Some-split.ensures.some
    ∙ append_assoc (replicate c.in-Some-split.n c.in-Some-split.number) (held c.in-Some-split.rest)
    (work_of c.pop.new.self.items)
    ∙ ap (λ (more : List ℕ). replicate c.in-Some-split.n c.in-Some-split.number ++ more) (sym c.in_ok-put.ensures)

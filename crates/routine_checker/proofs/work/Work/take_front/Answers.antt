use Rattle.std.proofs.Common.{◌-◌, sym, ap, ◌∙◌}
use Rattle.routine_checker.specs.Taking.{taken}
use Rattle.routine_checker.specs.inner.Work.{wants, work_of}
use Rattle.routine_checker.proofs.WorkLaws.{work_popped}
use Rattle.routine_checker.proofs.work.Work.take_front.Goals as goal

pub returns-clause-taken : goal.returns-clause-taken
returns-clause-taken c =
    let wanted = c.args.wanted in
    ap (taken c.args.pieces (wants wanted) wanted.nodes.now)
    (work_popped c.args.self.now.items.items c.pop.new.self.items c.in-Some.item c.in-Some.ensures.items)
    ∙ c.front-n.ensures.taken (work_of c.pop.new.self.items)
    ∙ ap (taken (c.args.pieces - c.front-n.result.0) (wants wanted) wanted.nodes.now) (sym c.in_ok-put.ensures)

use Rattle.std.proofs.Common.{◌≡◌, sym, ◌∙◌, Some}
use Rattle.giop_dumps.specs.OpenRuns.{run_of}
use Rattle.giop_dumps.proofs.RunLaws.{still_held}
use Rattle.giop_dumps.proofs.open_runs.OpenRuns.take.Goals as goal

pub overflow_sub-self : goal.overflow_sub-self
overflow_sub-self c =
    let there : run_of c.args.id c.self.inside.runs.entries ≡ Some c.in_ok-run.run' =
    sym c.remove.ensures.value ∙ c.in_ok-run.was in
    (still_held c.args.id _ c.remove.new.self.entries c.in_ok-run.run' _ _ c.self.invariant there
    c.octets.ensures.octets c.remove.ensures.entries).0

pub invariant_of-self-2 : goal.invariant_of-self-2
invariant_of-self-2 c =
    let there : run_of c.args.id c.self.inside.runs.entries ≡ Some c.in_ok-run.run' =
    sym c.remove.ensures.value ∙ c.in_ok-run.was in
    (still_held c.args.id _ c.remove.new.self.entries c.in_ok-run.run' _ _ c.self.invariant there
    c.octets.ensures.octets c.remove.ensures.entries).1

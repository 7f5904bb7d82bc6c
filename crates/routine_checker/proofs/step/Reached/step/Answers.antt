use Rattle.std.proofs.Common.{ℕ, List, Ok, sym, ap, ◌∙◌}
use Rattle.type_graph.specs.declared.width.Width.{Width}
use Rattle.type_graph.specs.declared.width.Width.TheVariants.{One}
use Rattle.routine_checker.specs.inner.Progress.{state_of}
use Rattle.routine_checker.proofs.StepCode.{step_align, step_outside, step_wrong_gap, step_passes}
use Rattle.routine_checker.proofs.ProgressLaws.{align_takes}
use Rattle.routine_checker.proofs.step.Reached.step.Goals as goal

pub returns-in-Align-clause-ok : goal.returns-in-Align-clause-ok
returns-in-Align-clause-ok c = λ work rest took.
    let graph = c.args.graph.now in
    let program = c.args.program.now in
    let instr = c.args.instr.now in
    step_align graph program c.args.at c.args.n instr (state_of work c.args.self) c.in-Align.to c.in-Align.is
    ∙ ap (λ (gap : Width). Ok (record { work = work; places = c.args.self.places; gap = gap })) (sym c.wider.ensures)
    ∙ ap (λ (work : List ℕ). Ok (record { work = work; places = c.args.self.places; gap = c.wider.result }))
    (align_takes graph program instr c.in-Align.to work rest c.in-Align.is took)

pub returns-then-not-enters : goal.returns-then-not-enters
returns-then-not-enters c =
    record {
      ok = tt;
      refused = λ work rest took. step_outside c.args.graph.now c.args.program.now c.args.at c.args.n
          c.args.instr.now (state_of work c.args.self) c.in_default.not-Align rest took
          (sym c.enters.ensures ∙ c.if-not-enters.true);
    }

pub returns-then-not-pads : goal.returns-then-not-pads
returns-then-not-pads c =
    record {
      ok = tt;
      refused = λ work rest took. step_wrong_gap c.args.graph.now c.args.program.now c.args.at c.args.n c.args.instr.now
          (state_of work c.args.self) c.in_default.not-Align rest took
          (sym c.enters.ensures ∙ c.if-not-enters.false) (sym c.pads.ensures ∙ c.if-not-pads.true);
    }

pub returns : goal.returns
returns c =
    record {
      ok = λ work rest took.
          step_passes c.args.graph.now c.args.program.now c.args.at c.args.n c.args.instr.now
          (state_of work c.args.self) c.in_default.not-Align rest took
          (sym c.enters.ensures ∙ c.if-not-enters.false) (sym c.pads.ensures ∙ c.if-not-pads.false)
          ∙ ap (λ (places : ℕ). Ok (record { work = rest; places = places; gap = One })) (sym c.ends.ensures);
      refused = tt;
    }

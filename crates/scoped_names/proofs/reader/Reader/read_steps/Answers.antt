use Rattle.std.proofs.Common.{◌∙◌, ◌<◌, ◌+◌, drop, length, map, subst, sym, arith}
use Rattle.std.proofs.lemmas.Result.{err_from_is_err_and}
use Rattle.name_table.specs.Entries.{latest}
use Rattle.scoped_names.specs.inner.Rising.{Rises, reached}
use Rattle.name_steps.specs.StepsKept.{step_of}
use Rattle.scoped_names.proofs.Readings.{or_told, steps_at, steps_off, steps_on}
use Rattle.scoped_names.proofs.Rising.{Rises-mono}
use Rattle.scoped_names.proofs.Steady.{step_low}
use Rattle.scoped_names.proofs.reader.Reader.read_steps.Goals as goal

pub read_step-requires : goal.read_step-requires
read_step-requires c =
    let xs = c.args.steps.now in
    let k = c.loop-step.step-index in
    let x = c.step-item.result in
    let lt : k < length xs = omega arith in
    (subst (Rises (latest c.loop-step.self.entries)) (steps_at step_of xs k x lt c.step-item.is)
    c.loop-step.invariant.rises).0

pub returns-in_err-read_step : goal.returns-in_err-read_step
returns-in_err-read_step c =
    let p = err_from_is_err_and c.from_residual.result c.from_residual.ensures.1 in
    let xs = c.args.steps.now in
    let k = c.loop-step.step-index in
    let lt : k < length xs = omega arith in
    rw (p.1, p.2) (or_told c.in_err-read_step.ensures.told
    (λ is. sym c.loop-step.invariant.told
    ∙ steps_off step_of c.loop-step.self xs k c.step-item.result _ lt c.step-item.is is))

pub loop-step-preserved : goal.loop-step-preserved
loop-step-preserved c =
    let xs = c.args.steps.now in
    let k = c.loop-step.step-index in
    let x = c.step-item.result in
    let st = c.loop-step.self in
    let next = c.read_step.new.self in
    let lt : k < length xs = omega arith in
    let is = c.in_ok-read_step.ensures.told in
    let rises = subst (Rises (latest st.entries)) (steps_at step_of xs k x lt c.step-item.is)
    c.loop-step.invariant.rises in
    record {
      told = steps_on step_of st next xs k x lt c.step-item.is is ∙ c.loop-step.invariant.told;
      rises = Rises-mono (latest next.entries) (reached (latest st.entries) (step_of x)) (map step_of (drop (k + 1) xs))
          (step_low st next (step_of x) is rises.0) rises.1;
    }

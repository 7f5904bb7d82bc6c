use Rattle.std.proofs.Common.{◌∙◌, ◌<◌, ◌+◌, ◌∷◌, [], drop, length, map, ap, subst, arith}
use Rattle.std.proofs.lemmas.List.{drop_all}
use Rattle.name_table.specs.Entries.{latest}
use Rattle.name_steps.specs.StepsKept.{step_of}
use Rattle.scoped_names.specs.inner.Rising.{Rises}
use Rattle.scoped_names.proofs.Passed.{continues_done, continues_on, rises_passed}
use Rattle.scoped_names.proofs.Readings.{steps_at}
use Rattle.scoped_names.proofs.reader.Reader.pass_steps.Goals as goal

pub pass_step-requires : goal.pass_step-requires
pass_step-requires c =
    let xs = c.args.steps.now in
    let k = c.loop-step.step-index in
    let x = c.step-item.result in
    let lt : k < length xs = omega arith in
    (subst (Rises (latest c.loop-step.self.entries)) (steps_at step_of xs k x lt c.step-item.is)
    c.loop-step.invariant.rises).0

pub loop-step-preserved : goal.loop-step-preserved
loop-step-preserved c =
    let xs = c.args.steps.now in
    let k = c.loop-step.step-index in
    let x = c.step-item.result in
    let st = c.loop-step.self in
    let next = c.pass_step.new.self in
    let lt : k < length xs = omega arith in
    let here = steps_at step_of xs k x lt c.step-item.is in
    let one = step_of x ∷ [] in
    let rest = map step_of (drop (k + 1) xs) in
    let passes = c.in_ok-pass_step.ensures.passed in
    let rises = subst (Rises (latest st.entries)) here c.loop-step.invariant.rises in
    record {
      passed = continues_on c.args.self.now st next c.args.faults.now c.loop-step.faults c.pass_step.new.faults
          (map step_of xs) one rest (map step_of (drop k xs)) c.loop-step.invariant.passed here passes;
      rises = rises_passed st next c.loop-step.faults c.pass_step.new.faults one rest passes rises;
      most = c.in_ok-pass_step.ensures.most ∙ c.loop-step.invariant.most;
    }

pub returns-clause-passed : goal.returns-clause-passed
returns-clause-passed c =
    let xs = c.args.steps.now in
    let k = c.loop-step.step-index in
    continues_done c.args.self.now c.loop-step.self c.args.faults.now c.loop-step.faults (map step_of xs)
    (map step_of (drop k xs)) c.loop-step.invariant.passed (ap (map step_of) (drop_all k xs c.loop-step-test.false))

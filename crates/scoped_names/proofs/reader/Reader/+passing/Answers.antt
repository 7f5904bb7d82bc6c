use Rattle.std.proofs.Common.{◌∙◌, ◌<◌, ◌+◌, ◌∷◌, [], ◌++◌, IfOk, Ok, drop, length, subst, sym, ap, arith}
use Rattle.std.proofs.lemmas.List.{drop_all}
use Rattle.idl_tree.proofs.PartLengths.{part_length}
use Rattle.idl_tree.specs.declared.kinds.EntryKind.TheVariants as Kinds
use Rattle.name_table.specs.Entries.{latest}
use Rattle.scoped_names.specs.inner.Heard.{Passes}
use Rattle.scoped_names.specs.inner.Rising.{Rises}
use Rattle.name_steps.specs.Steps.{Declares, Enters, Leaves, definition_steps, steps_of}
use Rattle.name_steps.proofs.ListedSteps.{module_listed}
use Rattle.scoped_names.proofs.Passed.{continues_done, continues_on, passes_joined, rises_passed, step_on}
use Rattle.scoped_names.proofs.Reached.{Rises-split, definitions_at, module_longer}
use Rattle.scoped_names.proofs.reader.Reader.+passing.Goals as goal

pub pass_definition-pass_module-requires : goal.pass_definition-pass_module-requires
pass_definition-pass_module-requires t c =
    let m = c.in-Module.m in
    let is = ap definition_steps c.in-Module.is in
    let whole = ap length is in
    let more = module_longer m in
    let d = c.decreases in
    (omega (arith, d, whole, more), subst (Rises (latest c.args.self.now.entries)) (is ∙ module_listed m) c.requires)

pub pass_definition-returns-in-Module-clause-passed : goal.pass_definition-returns-in-Module-clause-passed
pass_definition-returns-in-Module-clause-passed t c =
    let is = ap definition_steps c.in-Module.is ∙ module_listed c.in-Module.m in
    subst (λ steps. IfOk c.pass_module.result
    (λ done. Passes c.args.self.now c.args.faults.now steps c.pass_module.new.self c.pass_module.new.faults))
    (sym is) c.pass_module.ensures.passed

pub pass_definitions-pass_definition-requires : goal.pass_definitions-pass_definition-requires
pass_definitions-pass_definition-requires t c =
    let ds = c.args.definitions.now in
    let k = c.loop-definition.definition-index in
    let d = c.definition-item.result in
    let lt : k < length ds = omega arith in
    let within = part_length definition_steps ds k d lt c.definition-item.is in
    let low = c.decreases in
    let rises = subst (Rises (latest c.loop-definition.self.entries)) (definitions_at ds k d lt c.definition-item.is)
    c.loop-definition.invariant.rises in (
      omega (arith, within, low),
      (Rises-split (latest c.loop-definition.self.entries) (definition_steps d) (steps_of (drop (k + 1) ds)) rises).0,
    )

pub pass_definitions-loop-definition-preserved : goal.pass_definitions-loop-definition-preserved
pass_definitions-loop-definition-preserved t c =
    let ds = c.args.definitions.now in
    let k = c.loop-definition.definition-index in
    let d = c.definition-item.result in
    let st = c.loop-definition.self in
    let next = c.pass_definition.new.self in
    let lt : k < length ds = omega arith in
    let here = definitions_at ds k d lt c.definition-item.is in
    let rest = steps_of (drop (k + 1) ds) in
    let passes = c.in_ok-pass_definition.ensures.passed in
    let rises = subst (Rises (latest st.entries)) here c.loop-definition.invariant.rises in
    record {
      passed = continues_on c.args.self.now st next c.args.faults.now c.loop-definition.faults
          c.pass_definition.new.faults (steps_of ds) (definition_steps d) rest (steps_of (drop k ds))
          c.loop-definition.invariant.passed here passes;
      rises = rises_passed st next c.loop-definition.faults c.pass_definition.new.faults (definition_steps d) rest
          passes rises;
      most = c.in_ok-pass_definition.ensures.most ∙ c.loop-definition.invariant.most;
    }

pub pass_module-pass_definitions-requires : goal.pass_module-pass_definitions-requires
pass_module-pass_definitions-requires t c =
    let ds = c.args.m.now.definitions.items in
    let id = c.args.m.now.identifier in
    let st = c.args.self.now in
    let opened = c.pass_step.new.self in
    let same = ap (λ xs. length (steps_of xs)) c.as_slice.ensures.value in
    let low = c.decreases in
    let begun = rises_passed st opened c.args.faults.now c.pass_step.new.faults (Declares Kinds.Module id ∷ [])
    (Enters id ∷ steps_of ds ++ Leaves ∷ []) c.in_ok-pass_step.ensures.passed c.requires in
    let inner = (Rises-split (latest opened.entries) (steps_of ds) (Leaves ∷ []) begun.1).0 in (
      omega (arith, same, low),
      subst (λ xs. Rises (latest c.enter.new.self.entries) (steps_of xs)) (sym c.as_slice.ensures.value)
          (subst (λ s. Rises (latest s.entries) (steps_of ds)) (sym c.enter.ensures) inner),
    )

pub pass_module-returns-clause-passed : goal.pass_module-returns-clause-passed
pass_module-returns-clause-passed t c =
    let ds = c.args.m.now.definitions.items in
    let id = c.args.m.now.identifier in
    let st = c.args.self.now in
    let opened = c.pass_step.new.self in
    let entered = c.enter.new.self in
    let read = c.pass_definitions.new.self in
    let left = c.leave.new.self in
    let f = c.args.faults.now in
    let g = c.pass_step.new.faults in
    let h = c.pass_definitions.new.faults in
    let inside : Passes entered g (steps_of ds) read h =
    subst (λ xs. Passes entered g (steps_of xs) read h) c.as_slice.ensures.value
    c.in_ok-pass_definitions.ensures.passed in
    let enters = step_on opened entered g (Enters id) (ap Ok (sym c.enter.ensures)) in
    let leaves = step_on read left h Leaves (ap Ok (sym c.leave.ensures)) in
    let behind = passes_joined entered read left g h h (steps_of ds) (Leaves ∷ []) inside leaves in
    let within = passes_joined opened entered left g g h (Enters id ∷ []) (steps_of ds ++ Leaves ∷ []) enters behind in
    passes_joined st opened left f g h (Declares Kinds.Module id ∷ []) (Enters id ∷ steps_of ds ++ Leaves ∷ [])
    c.in_ok-pass_step.ensures.passed within

pub pass_definitions-returns-clause-passed : goal.pass_definitions-returns-clause-passed
pass_definitions-returns-clause-passed t c =
    let ds = c.args.definitions.now in
    let k = c.loop-definition.definition-index in
    continues_done c.args.self.now c.loop-definition.self c.args.faults.now c.loop-definition.faults (steps_of ds)
    (steps_of (drop k ds)) c.loop-definition.invariant.passed
    (ap steps_of (drop_all k ds c.loop-definition-test.false))

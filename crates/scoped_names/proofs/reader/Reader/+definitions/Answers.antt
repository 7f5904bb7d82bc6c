use Rattle.std.proofs.Common.{◌∙◌, ◌<◌, ◌+◌, ◌∷◌, [], ◌++◌, Ok, drop, length, subst, sym, ap, arith}
use Rattle.std.proofs.lemmas.Result.{err_from_is_err_and}
use Rattle.idl_tree.proofs.PartLengths.{part_length}
use Rattle.idl_tree.specs.declared.kinds.EntryKind.TheVariants as Kinds
use Rattle.name_table.specs.Entries.{latest}
use Rattle.scoped_names.specs.Faults.{steps_read}
use Rattle.scoped_names.specs.Reading.{Tells, ◌>>◌}
use Rattle.scoped_names.specs.inner.Rising.{Rises}
use Rattle.name_steps.specs.Steps.{Declares, Enters, Leaves, definition_steps, steps_of}
use Rattle.name_steps.proofs.ListedSteps.{module_listed}
use Rattle.scoped_names.proofs.Readings.{or_told}
use Rattle.scoped_names.proofs.Reached.{Rises-split, definitions_at, module_longer, rises_behind, steps_joined, steps_stopped}
use Rattle.scoped_names.proofs.reader.Reader.+definitions.Goals as goal

pub read_definition-read_module-requires : goal.read_definition-read_module-requires
read_definition-read_module-requires t c =
    let m = c.in-Module.m in
    let is = ap definition_steps c.in-Module.is in
    let whole = ap length is in
    let more = module_longer m in
    let d = c.decreases in
    (omega (arith, d, whole, more), subst (Rises (latest c.args.self.now.entries)) (is ∙ module_listed m) c.requires)

pub read_definition-returns-in-Module : goal.read_definition-returns-in-Module
read_definition-returns-in-Module t c =
    let st = c.args.self.now in
    let is = ap (steps_read st) (ap definition_steps c.in-Module.is ∙ module_listed c.in-Module.m) in
    subst (Tells c.read_module.result c.read_module.new.self) (sym is) c.read_module.ensures

pub read_definitions-read_definition-requires : goal.read_definitions-read_definition-requires
read_definitions-read_definition-requires t c =
    let ds = c.args.definitions.now in
    let k = c.loop-definition.definition-index in
    let d = c.definition-item.result in
    let lt : k < length ds = omega arith in
    let within = part_length definition_steps ds k d lt c.definition-item.is in
    let low = c.decreases in
    let rises = subst (Rises (latest c.loop-definition.self.entries)) (definitions_at ds k d lt c.definition-item.is)
    c.loop-definition.invariant.rises in (
      omega (arith, within, low),
      (Rises-split (latest c.loop-definition.self.entries) (definition_steps d) (steps_of (drop (k + 1) ds)) rises).0,
    )

pub read_definitions-returns-in_err-read_definition : goal.read_definitions-returns-in_err-read_definition
read_definitions-returns-in_err-read_definition t c =
    let p = err_from_is_err_and c.from_residual.result c.from_residual.ensures.1 in
    let ds = c.args.definitions.now in
    let k = c.loop-definition.definition-index in
    let d = c.definition-item.result in
    let st = c.loop-definition.self in
    let lt : k < length ds = omega arith in
    rw (p.1, p.2) (or_told c.in_err-read_definition.ensures
    (λ is. sym c.loop-definition.invariant.told ∙ ap (steps_read st) (definitions_at ds k d lt c.definition-item.is)
    ∙ steps_stopped st _ (definition_steps d) (steps_of (drop (k + 1) ds)) is))

pub read_definitions-loop-definition-preserved : goal.read_definitions-loop-definition-preserved
read_definitions-loop-definition-preserved t c =
    let ds = c.args.definitions.now in
    let k = c.loop-definition.definition-index in
    let d = c.definition-item.result in
    let st = c.loop-definition.self in
    let next = c.read_definition.new.self in
    let lt : k < length ds = omega arith in
    let here = definitions_at ds k d lt c.definition-item.is in
    let rest = steps_of (drop (k + 1) ds) in
    let is = c.in_ok-read_definition.ensures in
    let rises = subst (Rises (latest st.entries)) here c.loop-definition.invariant.rises in
    record {
      told = sym (steps_joined st next (definition_steps d) rest is) ∙ sym (ap (steps_read st) here)
          ∙ c.loop-definition.invariant.told;
      rises = rises_behind st next (definition_steps d) rest is rises;
    }

pub read_module-read_definitions-requires : goal.read_module-read_definitions-requires
read_module-read_definitions-requires t c =
    let ds = c.args.m.now.definitions.items in
    let id = c.args.m.now.identifier in
    let st = c.args.self.now in
    let opened = c.declare.new.self in
    let same = ap (λ xs. length (steps_of xs)) c.as_slice.ensures.value in
    let low = c.decreases in
    let front = Declares Kinds.Module id ∷ [] in
    let begun = rises_behind st opened front (Enters id ∷ steps_of ds ++ Leaves ∷ [])
    (ap (λ r. r >> λ s. steps_read s []) c.in_ok-declare.ensures.told) c.requires in
    let inner = (Rises-split (latest opened.entries) (steps_of ds) (Leaves ∷ []) begun.1).0 in (
      omega (arith, same, low),
      subst (λ xs. Rises (latest c.enter.new.self.entries) (steps_of xs)) (sym c.as_slice.ensures.value)
          (subst (λ s. Rises (latest s.entries) (steps_of ds)) (sym c.enter.ensures) inner),
    )

pub read_module-returns-in_err-read_definitions : goal.read_module-returns-in_err-read_definitions
read_module-returns-in_err-read_definitions t c =
    let p = err_from_is_err_and c.from_residual-in_err-read_definitions.result
    c.from_residual-in_err-read_definitions.ensures.1 in
    let ds = c.args.m.now.definitions.items in
    let id = c.args.m.now.identifier in
    let more = Enters id ∷ steps_of ds ++ Leaves ∷ [] in
    rw (p.1, p.2) (or_told c.in_err-read_definitions.ensures
    (λ is. ap (λ r. r >> λ s. steps_read s more) c.in_ok-declare.ensures.told
    ∙ ap (λ s. steps_read s (steps_of ds ++ Leaves ∷ [])) (sym c.enter.ensures)
    ∙ steps_stopped c.enter.new.self _ (steps_of ds) (Leaves ∷ [])
    (sym (ap (λ xs. steps_read c.enter.new.self (steps_of xs)) c.as_slice.ensures.value) ∙ is)))

pub read_module-returns : goal.read_module-returns
read_module-returns t c =
    let ds = c.args.m.now.definitions.items in
    let id = c.args.m.now.identifier in
    let more = Enters id ∷ steps_of ds ++ Leaves ∷ [] in
    let read = sym (ap (λ xs. steps_read c.enter.new.self (steps_of xs)) c.as_slice.ensures.value)
    ∙ c.in_ok-read_definitions.ensures in
    ap (λ r. r >> λ s. steps_read s more) c.in_ok-declare.ensures.told
    ∙ ap (λ s. steps_read s (steps_of ds ++ Leaves ∷ [])) (sym c.enter.ensures)
    ∙ steps_joined c.enter.new.self c.read_definitions.new.self (steps_of ds) (Leaves ∷ []) read
    ∙ ap Ok (sym c.leave.ensures)

use Rattle.std.proofs.Common.{◌≡◌, ◌∙◌, length, Result, Ok, ap, sym, subst}
use Rattle.lowered_types.specs.declared.fault.BuildFault.{BuildFault}
use Rattle.lowered_types.specs.Faults.{Tells, each}
use Rattle.lowered_operations.specs.Definitions.{definition as definition_after}
use Rattle.lowered_operations.specs.Operations.{Defined, undefined_yet}
use Rattle.lowered_operations.proofs.definitions.lower_file.Goals as goal

same_start : (d b : Defined) → (let r : Result Defined BuildFault = Ok d in r) ≡ Ok b → d ≡ b
same_start d b h = cc

-- what there is before the first definition
pub returns : goal.returns
returns c =
    let es = c.args.names.now.entries in
    let table = c.in_ok-table.table in
    let starts = ap undefined_yet (sym c.len.ensures.count)
    ∙ same_start (undefined_yet c.len.result) table c.in_ok-table.ensures in
    subst (λ xs. Tells c.with_definitions.result (λ t. t) (each (definition_after es 0) (undefined_yet (length es)) xs))
    c.as_slice.ensures.value
    (subst (λ d. Tells c.with_definitions.result (λ t. t) (each (definition_after es 0) d c.as_slice.result.now))
    (sym starts) c.with_definitions.ensures)

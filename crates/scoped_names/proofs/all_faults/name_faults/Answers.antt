use Rattle.std.proofs.Common.{subst, sym, ap, arith}
use Rattle.name_table.specs.Entries.{latest}
use Rattle.name_steps.specs.Steps.{steps_of}
use Rattle.scoped_names.specs.inner.Rising.{Rises}
use Rattle.scoped_names.proofs.Rising.{rising}
use Rattle.scoped_names.proofs.all_faults.name_faults.Goals as goal

pub pass_definitions-requires : goal.pass_definitions-requires
pass_definitions-requires c =
    let spec = c.args.spec.now in
    let begun = ap (λ st. latest st.entries) c.new-reader.ensures in
    subst (λ m. Rises m (steps_of c.as_slice.result.now)) (sym begun)
    (subst (λ ds. Rises 0 (steps_of ds)) (sym c.as_slice.ensures.value) (rising spec))

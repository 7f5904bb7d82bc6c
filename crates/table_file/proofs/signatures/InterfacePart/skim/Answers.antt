use Rattle.std.proofs.Common.{ℕ, Ok, length, refl, arith}
use Rattle.type_model.specs.declared.signatures.Interface.{Interface}
use Rattle.table_file.specs.Spelling.{spelled_interface}
use Rattle.table_file.specs.inner.PartCodes.{InterfaceFields, interface_fields, spelled_interface_fields}
use Rattle.table_file.specs.inner.Skimming.{IsAtMost, no_weight, weight_both}
use Rattle.table_file.proofs.SkimLaws.{fails_so, skims_so, via_skims}
use Rattle.table_file.proofs.signatures.InterfacePart.skim.Goals as goal

interface_of : InterfaceFields → Interface
interface_of x = record { name = x.0; id = x.1.0; bases = x.1.1.0; operations = x.1.1.1 }

abbrev Told : ℕ → Interface → Type 0
Told n x = Unit {0}

abbrev fields_weight : InterfaceFields → ℕ
fields_weight = weight_both no_weight (weight_both no_weight (weight_both length length))

pub returns-in-Ok : goal.returns-in-Ok
unfolding interface_of
returns-in-Ok c =
    skims_so spelled_interface Told (IsAtMost no_weight) c.in-Ok.field-0 0 _ _ (λ x told. omega arith)
    (via_skims spelled_interface_fields interface_fields interface_of (λ b. refl) (IsAtMost fields_weight) Told
    (λ n b fits. tt) (Ok c.in-Ok.field-0) _ _ c.in-Ok.ensures)

pub returns-in-Err : goal.returns-in-Err
unfolding interface_of
returns-in-Err c =
    fails_so spelled_interface Told (IsAtMost no_weight) c.in-Err.fault _ _
    (via_skims spelled_interface_fields interface_fields interface_of (λ b. refl) (IsAtMost fields_weight) Told
    (λ n b fits. tt) _ _ _ c.in-Err.ensures)

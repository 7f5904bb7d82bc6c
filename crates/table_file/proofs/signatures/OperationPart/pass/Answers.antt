use Rattle.std.proofs.Common.{refl}
use Rattle.table_file.specs.inner.PartCodes.{spelled_operation_fields, operation_fields}
use Rattle.table_file.proofs.PassLaws.{via_passes}
use Rattle.table_file.proofs.signatures.OperationPart.pass.Goals as goal

pub returns : goal.returns
returns c =
    via_passes spelled_operation_fields operation_fields
    (λ x. record { name = x.0; oneway = x.1.0; request = x.1.1.0; reply = x.1.1.1.0; exceptions = x.1.1.1.1 })
    (λ x. refl) _ _ _ c.pass.ensures

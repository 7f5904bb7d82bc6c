use Rattle.std.proofs.Common.{refl}
use Rattle.table_file.specs.inner.PartCodes.{spelled_exception_fields, exception_fields}
use Rattle.table_file.proofs.PassLaws.{via_passes}
use Rattle.table_file.proofs.signatures.ExceptionPart.pass.Goals as goal

pub returns : goal.returns
returns c =
    via_passes spelled_exception_fields exception_fields
    (λ x. record { name = x.0; id = x.1.0; frame = x.1.1 })
    (λ x. refl) _ _ _ c.pass.ensures

use Rattle.std.proofs.Common.{refl}
use Rattle.table_file.specs.inner.PartCodes.{spelled_interface_fields, interface_fields}
use Rattle.table_file.proofs.PassLaws.{via_passes}
use Rattle.table_file.proofs.signatures.InterfacePart.pass.Goals as goal

pub returns : goal.returns
returns c =
    via_passes spelled_interface_fields interface_fields
    (λ x. record { name = x.0; id = x.1.0; bases = x.1.1.0; operations = x.1.1.1 })
    (λ x. refl) _ _ _ c.pass.ensures

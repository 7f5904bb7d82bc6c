use Rattle.std.proofs.Common.{refl}
use Rattle.table_file.specs.inner.PartCodes.{spelled_routine_fields, routine_fields}
use Rattle.table_file.proofs.PassLaws.{via_passes}
use Rattle.table_file.proofs.routines.RoutinePart.pass.Goals as goal

pub returns : goal.returns
returns c =
    via_passes spelled_routine_fields routine_fields
    (λ x. record { node = x.0; entry = x.1.0; exits = x.1.1.0; rank = x.1.1.1.0; code = x.1.1.1.1 })
    (λ x. refl) _ _ _ c.pass.ensures

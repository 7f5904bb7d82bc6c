use Rattle.model_builder.proofs.RightModel.{of_types}
use Rattle.model_builder.proofs.file.lowered.Goals as goal

pub unreachable-requires : goal.unreachable-requires
unreachable-requires c =
    of_types c.args.spec.now c.args.names.now c.in-Err-OtherNames.field-0 c.requires c.in-Err-OtherNames.ensures
    c.in-Err-OtherNames.field-0-is

use Rattle.std.proofs.Common.{nat_lt, refl}
use Rattle.program_output.proofs.Chunks.{any_from_first, mask_of_splat_left}
use Rattle.program_output.proofs.lanes.NoBooleanSought.is_in_first.Goals as goal

pub returns : goal.returns
returns c = any_from_first (nat_lt 1) c.args.n _ _ c.args.lanes c.requires.within
    (mask_of_splat_left nat_lt 1 c.args.lanes c.requires.long) refl

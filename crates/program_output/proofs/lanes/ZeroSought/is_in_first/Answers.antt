use Rattle.std.proofs.Common.{nat_eq, w8, refl, arith}
use Rattle.std.proofs.lemmas.Simd.{bitmask_splat}
use Rattle.program_output.proofs.Chunks.{any_from_first}
use Rattle.program_output.proofs.lanes.ZeroSought.is_in_first.Goals as goal

pub returns : goal.returns
returns c =
    any_from_first (λ octet. nat_eq octet 0) c.args.n _ _ c.args.lanes c.requires.within
    (bitmask_splat w8 nat_eq c.args.lanes 32 0 c.requires.long (omega arith)) refl

use Rattle.std.proofs.Common.{◌≡◌, ◌++◌, drop, map}
use Rattle.lowered_types.specs.Types.{arm_at}
use Rattle.lowered_types.proofs.arms.ArmList.sites.Given as goal

abbrev pub invariant-loop-arm : goal.invariant-loop-arm
invariant-loop-arm l = l.sites.items ++ map arm_at (drop l.arm-index l.arm-items) ≡ map arm_at l.self.arms

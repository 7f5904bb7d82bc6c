use Rattle.std.proofs.Common.{◌≡◌, ◌++◌, drop, map}
use Rattle.lowered_types.specs.Types.{numbered_arm}
use Rattle.lowered_types.proofs.arms.ArmList.numbers.Given as goal

abbrev pub invariant-loop-arm : goal.invariant-loop-arm
invariant-loop-arm l = l.numbers.items ++ map numbered_arm (drop l.arm-index l.arm-items) ≡ map numbered_arm l.self.arms

use Rattle.std.proofs.Common.{◌≡◌, drop}
use Rattle.lowered_types.specs.Labels.{arm_label_at}
use Rattle.lowered_types.proofs.arms.ArmList.label_at.Given as goal

abbrev pub invariant-loop-arm : goal.invariant-loop-arm
invariant-loop-arm l = arm_label_at (drop l.arm-index l.arm-items) l.label ≡ arm_label_at l.self.arms l.label

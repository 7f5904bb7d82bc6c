use Rattle.std.proofs.Common.{arith}
use Rattle.std.proofs.lemmas.Int.{to_z-of_z}
use Rattle.lowered_types.proofs.ArmPlaces.{arm_comes, first_arm}
use Rattle.lowered_types.proofs.arms.place_of.Goals as goal

pub returns-then-arm-other-clause-there : goal.returns-then-arm-other-clause-there
returns-then-arm-other-clause-there c =
    arm_comes c.args.arms.now c.loop-place.place c.args.arm (first_arm)
    (λ j lt. let i = c.loop-place.invariant j lt in grind (arith, to_z-of_z))
    (omega arith)
    (λ lt. let h = c.if-arm-other.true in grind (arith, to_z-of_z))

pub returns-clause-there : goal.returns-clause-there
returns-clause-there c =
    arm_comes c.args.arms.now _ c.args.arm (first_arm)
    (λ j lt. let i = c.loop-place.invariant j (omega arith) in grind (arith, to_z-of_z))
    (omega arith)
    (λ lt. absurd (omega arith))

use Rattle.std.proofs.Common.{◌≡◌, ℤ, ℕ, map, drop, bit_or}
use Rattle.marshal_program.specs.ProgramRules.{arms_of}
use Rattle.routine_checker.specs.Steps.{left_by}
use Rattle.routine_checker.proofs.judge.left_by.Given as goal

abbrev pub invariant-loop-arm : goal.invariant-loop-arm
invariant-loop-arm l = bit_or l.ends
    (left_by l.program l.places (map (λ (arm : ℤ × ℕ). arm.1) (drop l.arm-index l.arms)))
    ≡ left_by l.program l.places (arms_of l.arms l.fn.otherwise)

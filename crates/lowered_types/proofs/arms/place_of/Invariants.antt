use Rattle.std.proofs.Common.{◌≡◌, ℕ, ◌<◌, false, get_or, int_lt}
use Rattle.lowered_types.proofs.ArmPlaces.{first_arm}
use Rattle.lowered_types.proofs.arms.place_of.Given as goal

abbrev pub invariant-loop-place : goal.invariant-loop-place
invariant-loop-place l = (j : ℕ) → j < l.place → int_lt l.arm.label (get_or l.arms j (first_arm)).label ≡ false

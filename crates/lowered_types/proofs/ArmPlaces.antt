-- Where an arm comes among those whose labels rise.
use Rattle.std.proofs.Common.{◌≡◌, ◌∙◌, ℕ, zero, suc, ◌<◌, ◌≤◌, true, false, List, [], ◌∷◌, get_or, length, sym, ap, refl, int_lt, pos, arith}
use Rattle.std.specs.Prelude.{insert, if◌then◌else◌}
use Rattle.lowered_types.specs.declared.arms.Arm.{Arm}
use Rattle.lowered_types.specs.Labels.{with_arm}

abbrev pub first_arm : Arm
first_arm = record {
  label = pos 0;
  label_at = record { token = 0; line = 0 };
  number = 0;
  at =
      record { token = 0; line = 0 };
}

-- before the first whose label is greater, or behind all
pub arm_comes : (arms : List Arm) (k : ℕ) (new d : Arm)
    → ((j : ℕ) → j < k → int_lt new.label (get_or arms j d).label ≡ false)
    → k ≤ length arms → (k < length arms → int_lt new.label (get_or arms k d).label ≡ true)
    → insert arms k new ≡ with_arm arms new
arm_comes [] zero new d before within there = refl
arm_comes [] (suc k) new d before within there = absurd (omega arith)
arm_comes (arm ∷ arms) zero new d before within there =
    sym (ap (λ b. if b then new ∷ arm ∷ arms else arm ∷ with_arm arms new) (there (omega arith)))
arm_comes (arm ∷ arms) (suc k) new d before within there =
    ap (λ xs. arm ∷ xs) (arm_comes arms k new d (λ j lt. before (suc j) (omega arith)) (omega arith)
    (λ lt. there (omega arith)))
    ∙ sym (ap (λ b. if b then new ∷ arm ∷ arms else arm ∷ with_arm arms new) (before 0 (omega arith)))

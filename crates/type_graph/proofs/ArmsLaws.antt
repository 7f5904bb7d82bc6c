-- Arms are compared one by one.
use Rattle.std.proofs.Common.{◌≡◌, ℕ, ℤ, Bool, true, false, ◌&&◌, refl, ap, ap₂}
use Rattle.std.specs.Bool.{Decides}

-- both tests passed
both_passed : (s t : Bool) → (s && t) ≡ true → (s ≡ true) × (t ≡ true)
both_passed true t h = (refl, h)
both_passed false t h = absurd cc

-- a test of both parts decides whether two pairs are equal
pub pairs_decided : (E : ℤ → ℤ → Bool) (F : ℕ → ℕ → Bool) → ((a b : ℤ) → Decides (E a b) (a ≡ b))
    → ((m n : ℕ) → Decides (F m n) (m ≡ n)) → (x y : ℤ × ℕ) → Decides (E x.0 y.0 && F x.1 y.1) (x ≡ y)
pairs_decided E F ints nats (a, m) (b, n) = (
  λ h.
      let both = both_passed (E a b) (F m n) h in
      ap₂ (λ (c : ℤ) (k : ℕ). (c, k)) ((ints a b).0 both.0) ((nats m n).0 both.1),
  λ e.
      let one = (ints a b).1 (ap (λ (p : ℤ × ℕ). p.0) e) in
      let other = (nats m n).1 (ap (λ (p : ℤ × ℕ). p.1) e) in
      ap₂ (λ s t. s && t) one other,
)

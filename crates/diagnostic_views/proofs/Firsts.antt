-- The first octet that passes a test, or the end.
use Rattle.std.proofs.Common.{◌≡◌, ℕ, ◌≤◌, Bool, not, cond, List, Some, None, nat_lt, unwrap_or, length, arith}
use Rattle.std.specs.List.{position, position_or_len}
use Rattle.std.proofs.lemmas.Bool.Decides.{nat_tests}
use Rattle.std.proofs.lemmas.List.Sums.{prefix_len-le-length}

found_or_end : (k n : ℕ) → k ≤ n → unwrap_or (cond (nat_lt k n) (Some k) None) n ≡ k
found_or_end k n h = grind (arith, nat_tests)

pub first_or_end : (p : ℕ → Bool) (s : List ℕ) → unwrap_or (position p s) (length s) ≡ position_or_len p s
first_or_end p s = found_or_end (position_or_len p s) (length s) (prefix_len-le-length (λ c. not (p c)) s)

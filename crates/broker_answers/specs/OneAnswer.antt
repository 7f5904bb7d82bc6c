-- That answers are one.
use Rattle.std.specs.Prelude.{◌≡◌, ℕ, Bool, List}

-- the octets, whether the connection is closed, and the servant's state
pub record IsSame {S : Type 0} (octets more : List ℕ) (closed shut : Bool) (one other : S) : Type 0 where
  pub answer : octets ≡ more
  pub closing : closed ≡ shut
  pub state : one ≡ other

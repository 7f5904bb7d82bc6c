-- What is read and written.
use Rattle.std.specs.Prelude.{◌≡◌, ◌≤◌, ◌&&◌, ℕ, Bool, true, List, [], ◌++◌, length, take, Option, Some, None, nat_eq, nat_lt}

-- The octets that are read are the next ones of those that are left, where these are told.
abbrev pub Gives : Option (List ℕ) → List ℕ → Option (List ℕ) → Type 0
Gives None got after = Unit {0}
Gives (Some left) got after = (rest : List ℕ) × (left ≡ got ++ rest) × (after ≡ Some rest)

-- nothing is left, where that is told
abbrev pub IsEmpty : Option (List ℕ) → Type 0
IsEmpty None = Unit {0}
IsEmpty (Some left) = left ≡ []

-- These octets are written behind those that were written, where these are told.
abbrev pub Adds : Option (List ℕ) → List ℕ → Option (List ℕ) → Type 0
Adds None more after = Unit {0}
Adds (Some octets) more after = after ≡ Some (octets ++ more)

-- a write that takes none of some octets failed too
abbrev pub is_stuck : List ℕ → ℕ → Bool
is_stuck octets n = nat_lt 0 (length octets) && nat_eq n 0

-- so many of some octets were written, and then a write failed
pub record IsUnsent (before : Option (List ℕ)) (octets : List ℕ) (n : ℕ) (after : Option (List ℕ)) (failure : Bool)
    : Type 0 where
  pub within : n ≤ length octets
  pub written : Adds before (take n octets) after
  pub failed : failure ≡ true

-- How many sequences stand one inside another: the profiles, and in each its octets.
use Rattle.std.specs.Prelude.{ℕ, ◌≤◌, List, [], ◌∷◌}

abbrev pub HasRoom : List (ℕ × List ℕ) → ℕ → Type 0
HasRoom [] depth = 1 ≤ depth
HasRoom (one ∷ more) depth = 2 ≤ depth

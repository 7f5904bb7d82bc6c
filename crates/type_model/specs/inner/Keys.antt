-- Texts of names with their places, as they are sorted.
use Rattle.std.specs.Prelude.{◌≡◌, ◌≢◌, ℕ, ◌+◌, ◌<◌, List, length, map, All, AllPairs, Contains, slice_index_or}
use Rattle.std.specs.Borrow.{Bor}
use Rattle.std.specs.Cmp.Lexicographic.{slice_cmp}
use Rattle.std.specs.Ordering.{nat_cmp, ordering_then}
use Rattle.std.specs.declared.cmp.Ordering.{Ordering}
use Rattle.type_model.specs.Names.{name_at}

abbrev pub Key : Type 0
Key = Bor (List ℕ) × ℕ

abbrev pub place_of : Key → ℕ
place_of key = key.1

abbrev pub key_cmp : Key → Key → Ordering
key_cmp one other = ordering_then (slice_cmp nat_cmp one.0.now other.0.now) (nat_cmp one.1 other.1)

-- each is the name at its place, and each place is there once
pub record AreKeys (names : List (List ℕ × ℕ)) (keys : List Key) : Type 0 where
  pub each : All (λ key. (key.1 < length names) × (key.0.now ≡ name_at names key.1)) keys
  pub whole : (place : ℕ) → place < length names → Contains (map place_of keys) place
  pub apart : AllPairs (λ one other. one ≢ other) (map place_of keys)

-- no text before a place is that behind it
abbrev pub Differ : List Key → ℕ → Type 0
Differ keys upto = (k : ℕ) (d : Key) → k + 1 < upto
    → (slice_index_or keys k d).0.now ≢ (slice_index_or keys (k + 1) d).0.now

-- Requests that were told, whose replies weren't.
use Rattle.std.specs.Prelude.{◌≡◌, ℕ, ◌<◌, Bool, List, [], ◌∷◌, ◌++◌, length, nat_eq, nat_lt, if◌then◌else◌, slice_index_or}
use Rattle.std.specs.List.{list_any, remove}
use Rattle.giop_words.specs.declared.asked.Asked.{Asked}

-- so many are remembered at most; of more the first is forgotten
abbrev pub kept : List Asked → List Asked
kept old = if nat_lt (length old) 4096 then old else remove old 0

abbrev pub remembered : List Asked → Asked → List Asked
remembered old asked = kept old ++ asked ∷ []

-- whether the request of a number is among them
abbrev pub waits : List Asked → ℕ → Bool
waits old id = list_any (λ asked. nat_eq asked.id id) old

-- the request of the number was taken out, and the others stay in their order
pub record IsAnswered (id : ℕ) (asked : Asked) (old new : List Asked) : Type 0 where
  pub place : ℕ
  pub within : place < length old
  pub is : asked ≡ slice_index_or old place asked
  pub id_is : asked.id ≡ id
  pub new_is : new ≡ remove old place

-- Which objects can be served together.
use Rattle.std.specs.Prelude.{ℕ, ◌<◌, Bool, true, not, ◌&&◌, List, [], ◌∷◌, All}
use Rattle.std.specs.List.{IsDistinct, list_any}
use Rattle.std.specs.Str.{bytes_eq}
use Rattle.broker_answers.specs.Objects.{Objects}

-- no two objects have one key, and the interface of each is one of so many
pub record AreFit (count : ℕ) (objects : Objects) : Type 0 where
  pub distinct : IsDistinct (λ one other. bytes_eq one.0 other.0) objects
  pub within : All (λ object. object.1 < count) objects

abbrev pub has_key : List ℕ → Objects → Bool
has_key key = list_any (λ object. bytes_eq key object.0)

abbrev pub are_distinct : Objects → Bool
are_distinct [] = true
are_distinct (object ∷ more) = not (has_key object.0 more) && are_distinct more

-- How far octets go on as a spelling does.
use Rattle.std.specs.Prelude.{◌≡◌, ℕ, Bool, true, false, List, ◌∷◌, ◌++◌, length, take, Option, Some, None}
use Rattle.std.specs.Fmt.{◌++?◌}
use Rattle.table_file.specs.Octets.{spelled_list}
use Rattle.table_file.specs.inner.Reading.{BeginsWithNone}

-- something is spelled
abbrev pub HasOne : {A : Type 0} → (A → Option (List ℕ)) → Type 0
HasOne {A} spelled = (x : A) × (octets : List ℕ) × (spelled x ≡ Some octets)

-- the octets begin a spelling
abbrev pub Begins : {A : Type 0} → (A → Option (List ℕ)) → List ℕ → Type 0
Begins {A} spelled octets = (x : A) × (more : List ℕ) × (spelled x ≡ Some (octets ++ more))

-- What stands before the rest begins a spelling. No spelling stands at the front of what goes on as the rest does, be
-- it with one octet or at its end.
pub record Stops {A : Type 0} (spelled : A → Option (List ℕ)) (octets rest : List ℕ) : Type 0 where
  pub front : List ℕ
  pub is : octets ≡ front ++ rest
  pub begins : Begins spelled front
  pub ends : (any : List ℕ) → take 1 any ≡ take 1 rest → BeginsWithNone spelled (front ++ any)

abbrev pub PassesBy : {A : Type 0} → (A → Option (List ℕ)) → Bool → List ℕ → List ℕ → Type 0
PassesBy {A} spelled true octets rest = (x : A) × (spelled x ++? Some rest ≡ Some octets)
PassesBy spelled false octets rest = Stops spelled octets rest

-- A spelling stands at the front, and the rest is behind it; or the octets stop being one at the rest.
pub record Passes {A : Type 0} (spelled : A → Option (List ℕ)) (result : Bool) (old new : List ℕ) : Type 0 where
  pub passes : PassesBy spelled result old new

-- one octet of a kind at the front, and the rest is behind it; or none is there, and the rest is all
abbrev pub PassesOneBy : (ℕ → Type 0) → Option ℕ → List ℕ → List ℕ → Type 0
PassesOneBy Is (Some n) octets rest = Is n × (octets ≡ n ∷ rest)
PassesOneBy Is None octets rest = (rest ≡ octets) × ((n : ℕ) (behind : List ℕ) → octets ≡ n ∷ behind → Is n → ⊥)

pub record PassesOne (Is : ℕ → Type 0) (result : Option ℕ) (old new : List ℕ) : Type 0 where
  pub passes : PassesOneBy Is result old new

-- of a list whose length stands before it: how long it is, or no list is there
abbrev pub PassesCountedBy : {A : Type 0} → (A → Option (List ℕ)) → Option ℕ → List ℕ → List ℕ → Type 0
PassesCountedBy {A} spelled (Some n) octets rest =
    (xs : List A) × (length xs ≡ n) × (spelled_list spelled xs ++? Some rest ≡ Some octets)
PassesCountedBy spelled None octets rest = Stops (spelled_list spelled) octets rest

pub record PassesCounted {A : Type 0} (spelled : A → Option (List ℕ)) (result : Option ℕ) (old new : List ℕ)
    : Type 0 where
  pub passes : PassesCountedBy spelled result old new

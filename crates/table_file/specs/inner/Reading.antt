-- What reading and writing a part of a table file do.
use Rattle.std.specs.Prelude.{◌≡◌, ℕ, List, ◌++◌, length, Option, Some, None, Result, Ok, Err}
use Rattle.std.specs.Bool.{OnFalse}
use Rattle.std.specs.Fmt.{◌++?◌}
use Rattle.marshal_program.specs.declared.fault.TableFault.{TableFault}
use Rattle.table_file.specs.Refusal.{wants_memory}

-- no spelling stands at the front of the octets
abbrev pub BeginsWithNone : {A : Type 0} → (A → Option (List ℕ)) → List ℕ → Type 0
BeginsWithNone {A} spelled octets = (x : A) (rest : List ℕ) → spelled x ++? Some rest ≡ Some octets → ⊥

-- The octets that are left before and after a part is read: None where a number that no table has was read before. The
-- spelling of the part stands at the front, or none does.
abbrev pub ReadsBy : {A : Type 0} → (A → Option (List ℕ)) → Result A TableFault → Option (List ℕ) → Option (List ℕ)
    → Type 0
ReadsBy spelled (Ok x) (Some octets) (Some rest) = spelled x ++? Some rest ≡ Some octets
ReadsBy spelled (Ok x) (Some octets) None = BeginsWithNone spelled octets
ReadsBy spelled (Ok x) None (Some rest) = ⊥
ReadsBy spelled (Ok x) None None = Unit {0}
ReadsBy spelled (Err fault) (Some octets) new = OnFalse (wants_memory fault) (BeginsWithNone spelled octets)
ReadsBy spelled (Err fault) None new = Unit {0}

pub record Reads {A : Type 0} (spelled : A → Option (List ℕ)) (result : Result A TableFault)
    (old new : Option (List ℕ)) : Type 0 where
  pub reads : ReadsBy spelled result old new

-- Behind what was written before, a spelling is put, or there is none.
abbrev pub Writes : Option (List ℕ) → Result (Unit {0}) TableFault → List ℕ → List ℕ → Type 0
Writes spelled (Ok done) old new = Some old ++? spelled ≡ Some new
Writes spelled (Err fault) old new = OnFalse (wants_memory fault) (Some old ++? spelled ≡ None)

-- octets taken from the front of those before
abbrev pub TakesBy : List ℕ → Option (List ℕ) → Option (List ℕ) → Type 0
TakesBy front (Some octets) (Some rest) = octets ≡ front ++ rest
TakesBy front (Some octets) None = ⊥
TakesBy front None (Some rest) = ⊥
TakesBy front None None = Unit {0}

-- so many
pub record Takes (count : ℕ) (front : List ℕ) (old new : Option (List ℕ)) : Type 0 where
  pub long : length front ≡ count
  pub takes : TakesBy front old new

-- what was read, and what was read behind it
abbrev pub beside : {A B : Type 0} → A → Result B TableFault → Result (A × B) TableFault
beside a (Ok b) = Ok (a, b)
beside a (Err fault) = Err fault

-- The octets are the spelling of what was read, or of nothing.
abbrev pub Whole : {A : Type 0} → (A → Option (List ℕ)) → Result A TableFault → List ℕ → Type 0
Whole spelled (Ok x) octets = spelled x ≡ Some octets
Whole {A} spelled (Err fault) octets = OnFalse (wants_memory fault) ((x : A) → spelled x ≡ Some octets → ⊥)

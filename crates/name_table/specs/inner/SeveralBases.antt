-- What an interface inherits where it gets one more base.
use Rattle.std.specs.Prelude.{◌≡◌, ◌≤◌, ◌⊎◌, ℕ, suc, cond, nat_lt, List, Some, None}
use Rattle.std.specs.Map.{lookup}
use Rattle.name_table.specs.declared.entry.Base.{Base}
use Rattle.name_table.specs.declared.key.Word.{Word}
use Rattle.name_table.specs.declared.record.Given.{Given}
use Rattle.name_table.specs.declared.record.Heir.{Heir}
use Rattle.name_table.specs.declared.search.Found.{Found}
use Rattle.name_table.specs.declared.search.Found.TheVariants.{Nothing}
use Rattle.name_table.specs.Entry.{Entry, bases_of}
use Rattle.name_table.specs.inner.Records.{HasWord, by_heir, given_before, is_word}
use Rattle.name_table.specs.Search.{base_at, both, inherited, within}

-- of a name that the bases before give from the token `first` on: behind the token of the new one what both give
abbrev pub given_then : ℕ → ℕ → Found → Found → ℕ → Found
given_then first token old new t = cond (nat_lt token t) (both old new) (cond (nat_lt first t) old Nothing)

-- what the interface of the scope inherits at the token t, with the base
abbrev pub with_more : List Entry → ℕ → Base → ℕ → List ℕ → Found
with_more es scope base t w =
    cond (nat_lt base.token t) (both (inherited es base.token scope w) (within es base.token (suc base.entry) w))
    (inherited es t scope w)

-- what is kept of the interface says so
abbrev pub Merges : List Entry → ℕ → Base → Heir → Type 0
Merges es scope base heir = (t : ℕ) (w : List ℕ) → by_heir es t w (Some heir) ≡ with_more es scope base t w

-- what is kept of the interface says what it inherits
abbrev pub IsKept : List Entry → ℕ → Heir → Type 0
IsKept es scope heir = (t : ℕ) (w : List ℕ) → inherited es t scope w ≡ by_heir es t w (Some heir)

-- it has no base from the token on
abbrev pub HasNoneFrom : List Entry → ℕ → ℕ → Type 0
HasNoneFrom es scope token = (j : ℕ) → token ≤ j → base_at (bases_of es scope) j ≡ None

-- the base says nothing new of the name
abbrev pub SaysNothingNew : List Entry → ℕ → Base → List ℕ → Type 0
SaysNothingNew es scope base w =
    both (inherited es base.token scope w) (within es base.token (suc base.entry) w) ≡ inherited es base.token scope w

-- what is kept of the name is right
abbrev pub IsRight : List Entry → ℕ → Base → List (Word × Given) → List ℕ → Type 0
IsRight es scope base others w =
    (g : Given) × (lookup (is_word w) others ≡ Some g) × ((t : ℕ) → given_before t g ≡ with_more es scope base t w)

-- of each name what is kept is right, or it is what was, and then the base says nothing new or the name is left
abbrev pub IsDone : List Entry → ℕ → Base → List (Word × Given) → List (Word × Given) → List Word → Type 0
IsDone es scope base old others left = (w : List ℕ) → IsRight es scope base others w
    ⊎ ((lookup (is_word w) others ≡ lookup (is_word w) old) × (SaysNothingNew es scope base w ⊎ HasWord left w))

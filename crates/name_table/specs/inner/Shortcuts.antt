-- Places in searches along the first bases of interfaces, and ways over several bases at once.
use Rattle.std.specs.Prelude.{◌≡◌, ◌≤◌, ◌<◌, ◌⊎◌, ℕ, suc, List, Option, None, Some, slice_get}
use Rattle.name_table.specs.declared.entry.Base.{Base}
use Rattle.name_table.specs.declared.key.Word.{Word}
use Rattle.name_table.specs.declared.search.Found.{Found}
use Rattle.name_table.specs.declared.shortcuts.Place.{Place}
use Rattle.name_table.specs.declared.shortcuts.Shortcut.{Shortcut}
use Rattle.name_table.specs.declared.shortcuts.SearchStep.{SearchStep}
use Rattle.name_table.specs.declared.shortcuts.SearchStep.TheVariants.{Done, On}
use Rattle.name_table.specs.Entry.{Entry}
use Rattle.name_table.specs.Entries.{latest}
use Rattle.name_table.specs.inner.Records.{HasWord}
use Rattle.name_table.specs.Search.{inherited, within}

-- what the bases of a scope give that are named before a token
abbrev pub given_at : List Entry → List ℕ → Place → Found
given_at es name place = inherited es place.token place.scope.0 name

-- a step of a search gives its end, or a place further down that gives the same
abbrev pub IsSearchStep : List Entry → List ℕ → Place → SearchStep → Type 0
IsSearchStep es name place (Done found) = found ≡ given_at es name place
IsSearchStep es name place (On next) = (next.token < place.token) × (given_at es name next ≡ given_at es name place)

-- each name that is none of the words is given at the place as it is found in the base
abbrev pub LeadsTo : List Entry → Base → List Word → Place → Type 0
LeadsTo es base words place = (name : List ℕ) →
    (within es base.token (suc base.entry) name ≡ given_at es name place) ⊎ HasWord words name

-- each name that is none of the words is given at the next place as at this
abbrev pub Passes : List Entry → List Word → Place → Place → Type 0
Passes es words place next = (name : List ℕ) → (given_at es name place ≡ given_at es name next) ⊎ HasWord words name

-- a way from a scope to a place further down, past the bases that are named behind `after`
pub record IsShort (es : List Entry) (scope : ℕ) (short : Shortcut) : Type 0 where
  pub earlier : short.place.token ≤ short.after
  pub same : (token : ℕ) → short.after < token
      → Passes es short.words.keys (record { token = token; scope = record { 0 = scope } }) short.place

abbrev pub way_in : Option (Option Shortcut) → Option Shortcut
way_in None = None
way_in (Some way) = way

-- the way that is kept from a scope
abbrev pub way_at : List (Option Shortcut) → ℕ → Option Shortcut
way_at ways scope = way_in (slice_get ways scope)

-- the ways that are kept, each from behind a base that there is
abbrev pub AreShort : List Entry → List (Option Shortcut) → Type 0
AreShort es ways = (scope : ℕ) (short : Shortcut) →
    way_at ways scope ≡ Some short → (short.after ≤ latest es) × IsShort es scope short

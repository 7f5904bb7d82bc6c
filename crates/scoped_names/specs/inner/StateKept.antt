-- What is kept of the members of scopes, as contracts see it.
use Rattle.std.specs.Prelude.{◌≡◌, ◌++◌, ℕ, Bool, true, false, ◌&&◌, nat_eq, cond, List, [], ◌∷◌, Option, Some, None, Vec, slice_get, if◌then◌else◌}
use Rattle.std.specs.declared.alloc.Global.{Global}
use Rattle.std.specs.BTreeMap.{BTreeMap, is_at}
use Rattle.std.specs.Map.{lookup}
use Rattle.std.specs.Option.{option_or}
use Rattle.std.specs.Str.{str_eq_ignore_ascii_case}
use Rattle.idl_tree.specs.Starts.{leaf_at}
use Rattle.idl_tree.specs.declared.names.At.{At}
use Rattle.idl_tree.specs.declared.names.Leaf.{Leaf}
use Rattle.name_table.specs.declared.key.Key.{Key}
use Rattle.name_table.specs.declared.key.Word.{Word}
use Rattle.name_table.specs.inner.Keys.{word_cmp}
use Rattle.name_table.specs.Entry.{Entry}
use Rattle.name_table.specs.Features.{HaveNoBases, features_of}
use Rattle.name_table.specs.Search.{word}
use Rattle.scoped_names.specs.declared.members.Past.{Past, Nothing, More'}
use Rattle.scoped_names.specs.declared.members.Placed.{Placed}
use Rattle.scoped_names.specs.Faults.{member_named}
use Rattle.scoped_names.specs.Reading.{Member}

abbrev pub member_of : ℕ → Leaf → Member
member_of scope l = record { scope = scope; name = word l; at = leaf_at l }

abbrev pub member_placed : Placed → Member
member_placed p = member_of p.scope.0 p.identifier

-- those so far, in order of declaration
abbrev pub members_in : Past → List Member
members_in Nothing = []
members_in (More' shape before last) = members_in before ++ member_placed last ∷ []

-- ---- the first members of each scope

abbrev pub leaves_in : Option (Vec Leaf Global) → List Leaf
leaves_in None = []
leaves_in (Some v) = v.items

abbrev pub leaves_at : List (Vec Leaf Global) → ℕ → List Leaf
leaves_at few scope = leaves_in (slice_get few scope)

-- where the first stands that has the name
abbrev pub sought : List Leaf → List ℕ → Option At
sought [] name = None
sought (l ∷ ls) name = (if str_eq_ignore_ascii_case name (word l) then Some (leaf_at l) else sought ls name)

-- of a scope, where one more is kept of this scope
abbrev pub leaves_with : ℕ → Leaf → List Leaf → ℕ → List Leaf
leaves_with scope l leaves s = (if nat_eq s scope then leaves ++ l ∷ [] else leaves)

-- ---- the members behind them

abbrev pub places_in : Option (BTreeMap Word At) → List (Word × At)
places_in None = []
places_in (Some m) = m.entries

-- where those of a scope are declared
abbrev pub places_at : List (BTreeMap Word At) → ℕ → List (Word × At)
places_at many scope = places_in (slice_get many scope)

-- what is found of a word in a scope, where one more is kept
abbrev pub places_with : Key → At → Word → Option At → ℕ → Option At
places_with k at q found s = cond (nat_eq s k.scope.0 && is_at (word_cmp k.word) q) (Some at) found

-- ---- all

abbrev pub found_at : List (Vec Leaf Global) → List (BTreeMap Word At) → ℕ → Word → Option At
found_at few many scope w =
    option_or (sought (leaves_at few scope) w.text.now) (lookup (is_at (word_cmp w)) (places_at many scope))

-- what is found by a scope and a word is the member of that name
abbrev pub AreFound : List Member → List (Vec Leaf Global) → List (BTreeMap Word At) → Type 0
AreFound members few many = (scope : ℕ) (w : Word) → found_at few many scope w ≡ member_named members scope w.text.now

-- what is kept serves the same members, and one more of a name that its scope hasn't yet
abbrev pub ServesMore : ℕ → Leaf
    → List (Vec Leaf Global) → List (BTreeMap Word At) → List (Vec Leaf Global) → List (BTreeMap Word At) → Type 0
ServesMore scope l few many few' many' =
    (members : List Member) → AreFound members few many → member_named members scope (word l) ≡ None
    → AreFound (members ++ member_of scope l ∷ []) few' many'

-- it serves the same members
abbrev pub ServesAll :
    List (Vec Leaf Global) → List (BTreeMap Word At) → List (Vec Leaf Global) → List (BTreeMap Word At) → Type 0
ServesAll few many few' many' = (members : List Member) → AreFound members few many → AreFound members few' many'

-- ---- operations and attributes

-- they are kept apart where an interface has a base
abbrev pub AreFeatures : List Entry → Bool → List Entry → Type 0
AreFeatures all false features = HaveNoBases all
AreFeatures all true features = features ≡ features_of all

-- The text that is printed of an object reference (ISO/IEC 19500-2, IOR: stringified object references): `IOR:` and the
-- lower-case digits of its encapsulation in big order. Every tree has one; that of a tree that is no reference means
-- nothing.
use Rattle.std.specs.Prelude.{ℕ, ◌+◌, ◌^◌, nat_lt, ℤ, pos, negsuc, if◌then◌else◌, List, [], ◌∷◌, ◌++◌, length, replicate}
use Rattle.type_graph.specs.declared.width.Width.TheVariants.{Four}
use Rattle.type_graph.specs.declared.width.Order.TheVariants.{Big}
use Rattle.type_graph.specs.Words.{pad, word}
use Rattle.type_graph.specs.Value.{Tree, Number, Bytes, Items, Trees, NoTree, AndTree, count}
use Rattle.reference_texts.specs.Texts.{spelled}
use Rattle.value_text.specs.Octets.{octets_of}

-- the unsigned long that a number is; what is none counts as 0
abbrev pub long_of : ℤ → ℕ
long_of (pos n) = if nat_lt n (2 ^ 32) then n else 0
long_of (negsuc n) = 0

abbrev pub long_of_tree : Tree → ℕ
long_of_tree (Number n) = long_of n
long_of_tree value = 0

-- behind octets zeros up to the next multiple of four, and an unsigned long (CDR: alignment)
abbrev pub with_long : List ℕ → ℕ → List ℕ
with_long front n = front ++ (replicate (pad (length front) 4) 0 ++ word Big Four (pos n))

-- a string: its length with the terminating zero, its octets, the zero
abbrev pub with_text : List ℕ → Tree → List ℕ
with_text front (Bytes text) = with_long front (long_of (pos (length text + 1))) ++ (text ++ 0 ∷ [])
with_text front value = front

-- octets behind their count
abbrev pub with_octets : List ℕ → Tree → List ℕ
with_octets front (Items octets) = with_long front (long_of (pos (count octets))) ++ octets_of octets
with_octets front value = front

-- a profile: its tag and its octets
abbrev pub with_profile : List ℕ → Tree → List ℕ
with_profile front (Items (AndTree tag (AndTree octets NoTree))) =
    with_octets (with_long front (long_of_tree tag)) octets
with_profile front value = front

abbrev pub with_each : List ℕ → Trees → List ℕ
with_each front NoTree = front
with_each front (AndTree profile more) = with_each (with_profile front profile) more

-- profiles behind their count
abbrev pub with_profiles : List ℕ → Tree → List ℕ
with_profiles front (Items profiles) = with_each (with_long front (long_of (pos (count profiles)))) profiles
with_profiles front value = front

-- the id and the profiles
abbrev pub with_members : List ℕ → Trees → List ℕ
with_members front (AndTree id (AndTree profiles NoTree)) = with_profiles (with_text front id) profiles
with_members front members = front

-- behind the flag of big order (CDR: encapsulation)
abbrev pub encapsulation : Trees → List ℕ
encapsulation members = with_members (0 ∷ []) members

abbrev pub reference_text : Trees → List ℕ
reference_text members = spelled (encapsulation members)

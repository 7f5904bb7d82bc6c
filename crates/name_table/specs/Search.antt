-- What a name finds (ISO/IEC 19500-1, scoping rules and name resolution): its first identifier in the scope that it
-- stands in, then in the bases of an interface, then in the scope around, and so on; the others inside what was found.
-- A name finds only what is declared before it, and follows only bases that are named before it.
use Rattle.std.specs.Prelude.{◌≡◌, ℕ, zero, suc, Bool, true, false, cond, nat_eq, nat_lt, map, List, [], ◌∷◌, ◌&&◌, ◌==◌, slice_get, slice_index, Option, Some, None}
use Rattle.std.specs.Str.{bytes_eq}
use Rattle.idl_lexer.specs.Words.{unescaped}
use Rattle.idl_tree.specs.declared.names.Leaf.{Leaf}
use Rattle.idl_tree.specs.declared.names.ScopedName.{ScopedName}
use Rattle.idl_tree.specs.Starts.{is_rooted, name_first, name_rest, name_start}
use Rattle.name_table.specs.declared.entry.Base.{Base}
use Rattle.name_table.specs.declared.search.Found.{Found}
use Rattle.name_table.specs.declared.search.Found.TheVariants.{Nothing, One, Several}
use Rattle.name_table.specs.declared.search.Sight.{Sight}
use Rattle.name_table.specs.declared.search.Sight.TheVariants.{Unseen, OtherCase, Unclear, Seen}
use Rattle.name_table.specs.Entry.{Entry, named, bases_of, around}

-- of two entries the first that isn't e
abbrev pub other_than : ℕ → ℕ → ℕ → ℕ
other_than e a b = cond (nat_eq e a) b a

-- what two ways give together: one entry by two ways is one, and of several that differ the first two are told
abbrev pub both : Found → Found → Found
both Nothing b = b
both (One e) Nothing = One e
both (One e) (One f) = cond (nat_eq e f) (One e) (Several e f)
both (One e) (Several a b) = Several e (other_than e a b)
both (Several a b) c = Several a b

-- what comes first is taken
abbrev pub or_else : Found → Found → Found
or_else Nothing b = b
or_else (One e) b = One e
or_else (Several a b) c = Several a b

-- the entry, where it is declared before the token n
abbrev pub before : ℕ → ℕ → Option Entry → Found
before n e None = Nothing
before n e (Some entry) = cond (nat_lt entry.token n) (One e) Nothing

abbrev pub declared_before : List Entry → ℕ → Option ℕ → Found
declared_before entries n None = Nothing
declared_before entries n (Some e) = before n e (slice_get entries e)

-- the scope's own entry of the name that is declared before the token n
abbrev pub own : List Entry → ℕ → ℕ → List ℕ → Found
own entries n scope name = declared_before entries n (named entries scope name)

-- the base that is named at the token
abbrev pub base_at : List Base → ℕ → Option ℕ
base_at [] token = None
base_at (b ∷ bs) token = cond (nat_eq b.token token) (Some b.entry) (base_at bs token)

abbrev pub from_base : (ℕ → Found) → Option ℕ → Found
from_base gives None = Nothing
from_base gives (Some b) = gives (suc b)

-- what the bases that are named before the token give: of each what its name finds inside it, its own entry or else
-- what it inherits
abbrev pub inherited : List Entry → ℕ → ℕ → List ℕ → Found
inherited entries zero scope name = Nothing
inherited entries (suc m) scope name =
    both (inherited entries m scope name)
    (from_base (λ s. or_else (own entries m s name) (inherited entries m s name)) (base_at (bases_of entries scope) m))

-- what a name before the token n finds in the scope and its bases
abbrev pub within : List Entry → ℕ → ℕ → List ℕ → Found
within entries n scope name = or_else (own entries n scope name) (inherited entries n scope name)

-- the scope, the one around it, and so on to the file's; there are no more than the number of the scope and the file's
abbrev pub outwards : List Entry → ℕ → ℕ → List ℕ
outwards entries zero scope = 0 ∷ []
outwards entries (suc k) zero = 0 ∷ []
outwards entries (suc k) (suc e) = suc e ∷ outwards entries k (around entries (suc e))

-- the scopes in which the first identifier of a name is sought: the file's alone behind `::`
abbrev pub sought_in : List Entry → ℕ → Bool → List ℕ
sought_in entries scope true = 0 ∷ []
sought_in entries scope false = outwards entries scope scope

-- what the first of the scopes gives that gives something
abbrev pub within_first : List Entry → ℕ → List ℕ → List ℕ → Found
within_first entries n [] name = Nothing
within_first entries n (scope ∷ scopes) name =
    or_else (within entries n scope name) (within_first entries n scopes name)

abbrev pub is_spelled : List ℕ → Option Entry → Bool
is_spelled name None = false
is_spelled name (Some e) = bytes_eq name e.name

-- an entry that is declared in another case than the name has isn't what the name finds
abbrev pub sight : List Entry → List ℕ → Found → Sight
sight entries name Nothing = Unseen
sight entries name (One e) = cond (is_spelled name (slice_get entries e)) (Seen e) (OtherCase e)
sight entries name (Several a b) = Unclear a b

-- what words find one inside another
abbrev pub inside : List Entry → ℕ → Sight → List (List ℕ) → Sight
inside entries n seen [] = seen
inside entries n Unseen (w ∷ ws) = Unseen
inside entries n (OtherCase e) (w ∷ ws) = OtherCase e
inside entries n (Unclear a b) (w ∷ ws) = Unclear a b
inside entries n (Seen e) (w ∷ ws) = inside entries n (sight entries w (within entries n (suc e) w)) ws

-- what is seen where words with `::` between them, and maybe before the first, are sought before the token n from the
-- scope
abbrev pub sees_words : List Entry → ℕ → ℕ → Bool → List ℕ → List (List ℕ) → Sight
sees_words entries n scope rooted first rest =
    inside entries n (sight entries first (within_first entries n (sought_in entries scope rooted) first)) rest

abbrev pub found_by : Sight → Found
found_by Unseen = Nothing
found_by (OtherCase e) = Nothing
found_by (Unclear a b) = Several a b
found_by (Seen e) = One e

-- what they find
abbrev pub finds_words : List Entry → ℕ → ℕ → Bool → List ℕ → List (List ℕ) → Found
finds_words entries n scope rooted first rest = found_by (sees_words entries n scope rooted first rest)

-- the name of an identifier
abbrev pub word : Leaf → List ℕ
word l = unescaped l.token.text.now

-- what is seen where a name is sought that stands in the scope
abbrev pub sees : List Entry → ℕ → ScopedName → Sight
sees entries scope name =
    sees_words entries (name_start name).number scope (is_rooted name) (word (name_first name))
    (map word (name_rest name))

-- what a name finds that stands in the scope
abbrev pub finds : List Entry → ℕ → ScopedName → Found
finds entries scope name = found_by (sees entries scope name)

-- the name finds the entry, and no other
abbrev pub Finds : List Entry → ℕ → ScopedName → ℕ → Type 0
Finds entries scope name entry = finds entries scope name ≡ One entry

-- ---- names that are written in a text

abbrev pub begins_at_root : List ℕ → Bool
begins_at_root name = slice_index name 0 == 58 && slice_index name 1 == 58

-- what is seen where identifiers are sought before the token, from the scope
abbrev pub identifiers_see : List Entry → ℕ → ℕ → Bool → List (List ℕ) → Sight
identifiers_see entries token scope rooted [] = Unseen
identifiers_see entries token scope rooted (w ∷ ws) =
    sees_words entries token scope rooted (unescaped w) (map unescaped ws)

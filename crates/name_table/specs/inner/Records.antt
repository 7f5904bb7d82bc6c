-- What is kept of entries, and what it says of searches.
use Rattle.std.specs.Prelude.{◌≡◌, ℕ, zero, suc, ◌<◌, ◌≤◌, Bool, true, cond, nat_lt, map, List, [], ◌∷◌, slice_get, length, Option, Some, None, Vec, Box}
use Rattle.std.specs.declared.alloc.Global.{Global}
use Rattle.std.specs.Map.{lookup}
use Rattle.std.specs.Str.{str_eq_ignore_ascii_case}
use Rattle.name_table.specs.declared.const_values.constant.Constant.{Constant}
use Rattle.name_table.specs.declared.const_values.kind.ConstKind.{ConstKind}
use Rattle.name_table.specs.declared.entry.Base.{Base}
use Rattle.name_table.specs.declared.key.Key.{Key}
use Rattle.name_table.specs.declared.key.Word.{Word}
use Rattle.name_table.specs.declared.record.Clash.{Clash}
use Rattle.name_table.specs.declared.record.Given.{Given}
use Rattle.name_table.specs.declared.record.Heir.{Heir}
use Rattle.name_table.specs.declared.record.Known.{Known}
use Rattle.name_table.specs.declared.record.Record.{Record}
use Rattle.name_table.specs.declared.search.Found.{Found}
use Rattle.name_table.specs.declared.search.Found.TheVariants.{Nothing, One, Several}
use Rattle.name_table.specs.Entry.{Entry, bases_of, named}
use Rattle.name_table.specs.Search.{base_at, inherited, within}

abbrev pub heir_bases : Option (Box Heir Global) → List Base
heir_bases None = []
heir_bases (Some h) = h.value.first ∷ h.value.later.items

abbrev pub worth_known : Option (Box Known Global) → Option Constant
worth_known None = None
worth_known (Some k) = k.value.worth

abbrev pub kind_known : Option (Box Known Global) → Option ConstKind
kind_known None = None
kind_known (Some k) = k.value.stands_for

abbrev pub entry_of : Record → Entry
entry_of r = record {
  scope = r.key.scope.0;
  name = r.key.word.text.now;
  token = r.token;
  kind = r.kind;
  bases = heir_bases r.heir;
  worth = worth_known r.known;
  stands_for = kind_known r.known;
  line = r.line;
  identifier = r.identifier;
  prefix = r.prefix.now;
}

abbrev pub entries_in : List Record → List Entry
entries_in records = map entry_of records

-- the entry, and behind the token of the clash another one too
abbrev pub alone_or_not : ℕ → ℕ → Option Clash → Found
alone_or_not token entry None = One entry
alone_or_not token entry (Some clash) = cond (nat_lt clash.token token) (Several entry clash.entry) (One entry)

-- what the bases before the token give
abbrev pub given_before : ℕ → Given → Found
given_before token g = cond (nat_lt g.token token) (alone_or_not token g.entry g.clash) Nothing

abbrev pub is_word : List ℕ → Word → Bool
is_word name w = str_eq_ignore_ascii_case name w.text.now

-- what the first base gives, where it is named before the token
abbrev pub by_first : List Entry → ℕ → List ℕ → Base → Found
by_first entries token name b = cond (nat_lt b.token token) (within entries b.token (suc b.entry) name) Nothing

abbrev pub by_given : List Entry → ℕ → List ℕ → Base → Option Given → Found
by_given entries token name b None = by_first entries token name b
by_given entries token name b (Some g) = given_before token g

abbrev pub by_heir : List Entry → ℕ → List ℕ → Option Heir → Found
by_heir entries token name None = Nothing
by_heir entries token name (Some h) =
    by_given entries token name h.first (lookup (is_word name) h.others.entries)

abbrev pub unboxed : Option (Box Heir Global) → Option Heir
unboxed None = None
unboxed (Some h) = Some h.value

abbrev pub heir_in : Option Record → Option Heir
heir_in None = None
heir_in (Some r) = unboxed r.heir

abbrev pub heir_of : List Record → ℕ → Option Heir
heir_of records zero = None
heir_of records (suc e) = heir_in (slice_get records e)

-- what an interface inherits is what is kept
abbrev pub AreSearched : List Record → Type 0
AreSearched records = (token scope : ℕ) (name : List ℕ) →
    inherited (entries_in records) token scope name ≡ by_heir (entries_in records) token name (heir_of records scope)

-- bases are entries
abbrev pub ArePlaced : List Record → Type 0
ArePlaced records = (scope token base : ℕ) →
    base_at (bases_of (entries_in records) scope) token ≡ Some base → base < length records

-- the scope of an entry is that of an earlier one
abbrev pub AreNestedRecords : List Record → Type 0
AreNestedRecords records = (k : ℕ) (r : Record) → slice_get records k ≡ Some r → r.key.scope.0 ≤ k

-- some of the words is the name, whatever its case
abbrev pub HasWord : List Word → List ℕ → Type 0
HasWord words name = (k : ℕ) × (w : Word) × (slice_get words k ≡ Some w) × (is_word name w ≡ true)

abbrev pub words_in : Option (Vec Word Global) → List Word
words_in None = []
words_in (Some v) = v.items

abbrev pub words_at : List (Vec Word Global) → ℕ → List Word
words_at words scope = words_in (slice_get words scope)

-- each scope's words are listed
abbrev pub AreListed : List Record → List (Vec Word Global) → Type 0
AreListed records words = (scope k : ℕ) (name : List ℕ) →
    named (entries_in records) scope name ≡ Some k → HasWord (words_at words scope) name

abbrev pub key_of : Record → Key
key_of r = r.key

-- what is kept of entries, in step with their keys
pub record AreTied (keys : List Key) (records : List Record) (words : List (Vec Word Global)) : Type 0 where
  pub keyed : keys ≡ map key_of records
  pub nested : AreNestedRecords records
  pub placed : ArePlaced records
  pub listed : AreListed records words
  pub searched : AreSearched records

-- What is declared, as entries, and lists of entries that grow.
use Rattle.std.specs.Prelude.{ℕ, zero, suc, max, List, [], ◌∷◌, ◌++◌, Option, Some, None, slice_get, slice_set}
use Rattle.idl_tree.specs.declared.names.Leaf.{Leaf}
use Rattle.idl_tree.specs.declared.kinds.EntryKind.{EntryKind}
use Rattle.name_table.specs.declared.entry.Base.{Base}
use Rattle.name_table.specs.declared.entry.Meaning.{Meaning}
use Rattle.name_table.specs.Entry.{Entry, named}
use Rattle.name_table.specs.Search.{word}

-- what is neither a constant nor the name of a constant's type, and is found behind the token
abbrev pub plain : ℕ → EntryKind → Meaning
plain token kind = record { token = token; kind = kind; worth = None; stands_for = None }

-- what is declared in the scope, where the prefix is set
abbrev pub entry_declared : Meaning → List ℕ → ℕ → Leaf → Entry
entry_declared m prefix scope l = record {
  scope = scope;
  name = word l;
  token = m.token;
  kind = m.kind;
  bases = [];
  worth = m.worth;
  stands_for = m.stands_for;
  line = l.token.line;
  identifier = l.number;
  prefix = prefix;
}

abbrev pub entry_with_base : List Entry → ℕ → Base → Option Entry → List Entry
entry_with_base es place base None = es
entry_with_base es place base (Some e) = slice_set es place (record e { bases = e.bases ++ base ∷ [] })

-- the interface of the scope has one more base
abbrev pub with_base : List Entry → ℕ → Base → List Entry
with_base es zero base = es
with_base es (suc e) base = entry_with_base es e base (slice_get es e)

abbrev pub scope_number : Option ℕ → ℕ
scope_number None = 0
scope_number (Some e) = suc e

-- the scope of what an identifier was declared as
abbrev pub scope_of : List Entry → ℕ → Leaf → ℕ
scope_of es scope l = scope_number (named es scope (word l))

-- ---- tokens of bases

abbrev pub last_of : List Base → ℕ
last_of [] = 0
last_of (b ∷ bs) = max b.token (last_of bs)

-- the greatest token of a base, 0 where there is none
abbrev pub latest : List Entry → ℕ
latest [] = 0
latest (e ∷ es) = max (last_of e.bases) (latest es)

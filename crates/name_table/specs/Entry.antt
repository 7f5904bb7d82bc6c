-- A declared name as contracts see it, and scopes. Entries have numbers from 0, in order of declaration. A scope is 0
-- for the whole file, else one more than the number of the entry whose scope it is.
use Rattle.std.specs.List.{IsDistinct}
use Rattle.std.specs.Str.{str_eq_ignore_ascii_case}
use Rattle.std.specs.Prelude.{◌≡◌, ◌≤◌, ℕ, zero, suc, Bool, ◌&&◌, nat_eq, List, [], position, slice_get, Option, Some, None}
use Rattle.name_table.specs.declared.const_values.constant.Constant.{Constant}
use Rattle.name_table.specs.declared.const_values.kind.ConstKind.{ConstKind}
use Rattle.idl_tree.specs.declared.kinds.EntryKind.{EntryKind}
use Rattle.name_table.specs.declared.entry.Base.{Base}

-- a name that is declared in a scope, and found by names behind the token; the bases of an interface in order; what a
-- constant or an enumerator is worth; the type of constants for which the name of a type stands in the end, if it does;
-- of its first declaration the line and the number of the identifier, and the prefix of repository ids
pub record Entry : Type 0 where
  pub scope : ℕ
  pub name : List ℕ
  pub token : ℕ
  pub kind : EntryKind
  pub bases : List Base
  pub worth : Option Constant
  pub stands_for : Option ConstKind
  pub line : ℕ
  pub identifier : ℕ
  pub prefix : List ℕ

-- the entry is the scope's of that name, whatever the case of its letters
abbrev pub is_named : ℕ → List ℕ → Entry → Bool
is_named scope name e = nat_eq scope e.scope && str_eq_ignore_ascii_case name e.name

-- the number of the scope's entry of that name
abbrev pub named : List Entry → ℕ → List ℕ → Option ℕ
named entries scope name = position (is_named scope name) entries

abbrev pub bases_in : Option Entry → List Base
bases_in None = []
bases_in (Some e) = e.bases

-- the bases of the interface whose scope it is
abbrev pub bases_of : List Entry → ℕ → List Base
bases_of entries zero = []
bases_of entries (suc e) = bases_in (slice_get entries e)

abbrev pub worth_in : Option Entry → Option Constant
worth_in None = None
worth_in (Some e) = e.worth

abbrev pub meant_in : Option Entry → Option ConstKind
meant_in None = None
meant_in (Some e) = e.stands_for

abbrev pub scope_in : Option Entry → ℕ
scope_in None = 0
scope_in (Some e) = e.scope

-- the scope around a scope
abbrev pub around : List Entry → ℕ → ℕ
around entries zero = 0
around entries (suc e) = scope_in (slice_get entries e)

-- no entry has the name of another of its scope, whatever the case
abbrev pub AreDistinct : List Entry → Type 0
AreDistinct entries = IsDistinct (λ one other. is_named one.scope one.name other) entries

-- the scope of an entry is the file's, or that of an earlier one
abbrev pub AreNested : List Entry → Type 0
AreNested entries = (place : ℕ) (e : Entry) → slice_get entries place ≡ Some e → e.scope ≤ place

abbrev pub name_in : Option Entry → List ℕ
name_in None = []
name_in (Some e) = e.name

abbrev pub prefix_in : Option Entry → List ℕ
prefix_in None = []
prefix_in (Some e) = e.prefix

-- Operations and attributes, and whether bases give different ones of a name.
use Rattle.std.specs.Prelude.{◌≡◌, ℕ, suc, Bool, true, false, not, if◌then◌else◌, nat_eq, map, List, [], None}
use Rattle.std.specs.List.{AllByRecursion, list_any}
use Rattle.idl_tree.specs.declared.kinds.EntryKind.{EntryKind}
use Rattle.idl_tree.specs.declared.kinds.EntryKind.TheVariants.{Module, Interface, Struct, Union, Enum, Enumerator, Typedef, Const, Exception, Operation, Attribute}
use Rattle.name_table.specs.declared.entry.Base.{Base}
use Rattle.name_table.specs.declared.entry.Meaning.{Meaning}
use Rattle.name_table.specs.declared.search.Found.{Found}
use Rattle.name_table.specs.declared.search.Found.TheVariants.{Nothing, One, Several}
use Rattle.name_table.specs.Entry.{Entry}
use Rattle.name_table.specs.Search.{inherited, within}

-- what an interface inherits and doesn't repeat
abbrev pub is_feature : EntryKind → Bool
is_feature Module = false
is_feature Interface = false
is_feature Struct = false
is_feature Union = false
is_feature Enum = false
is_feature Enumerator = false
is_feature Typedef = false
is_feature Const = false
is_feature Exception = false
is_feature Operation = true
is_feature Attribute = true

-- a token behind which no name stands
abbrev pub no_token : ℕ
no_token = 18446744073709551615

-- of the features nothing but operations and attributes is found: no name stands behind all tokens
abbrev pub feature_token : Entry → ℕ
feature_token e = (if is_feature e.kind then e.token else no_token)

-- what is meant, among operations and attributes alone
abbrev pub feature_meant : Meaning → Meaning
feature_meant m = record {
  token = (if is_feature m.kind then m.token else no_token);
  kind = m.kind;
  worth = None;
  stands_for = None;
}

abbrev pub as_feature : Entry → Entry
as_feature e = record e { token = feature_token e; worth = None; stands_for = None }

-- the entries, of which no type hides an operation or attribute
abbrev pub features_of : List Entry → List Entry
features_of es = map as_feature es

-- no interface has a base
abbrev pub HaveNoBases : List Entry → Type 0
HaveNoBases es = AllByRecursion (λ e. e.bases ≡ []) es

-- of an entry without bases
abbrev pub bare_feature : Entry → Entry
bare_feature e = record (as_feature e) { bases = [] }

abbrev pub is_one_other : Found → Found → Bool
is_one_other (One a) (One b) = not (nat_eq a b)
is_one_other (One a) Nothing = false
is_one_other (One a) (Several b c) = false
is_one_other Nothing b = false
is_one_other (Several a b) c = false

-- of a name what the bases before give is another operation or attribute than the base gives
abbrev pub differ_in : List Entry → ℕ → Base → List ℕ → Bool
differ_in features inner base name =
    is_one_other (inherited features base.token inner name) (within features base.token (suc base.entry) name)

-- of some name
abbrev pub differ : List Entry → ℕ → Base → Bool
differ features inner base = list_any (λ e. differ_in features inner base e.name) features

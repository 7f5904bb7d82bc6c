-- What identifiers are declared as (ISO/IEC 19500-1, names and scoping), and from which token on they are found.
use Rattle.std.specs.Prelude.{ℕ, ◌+◌, Option, Some, None, length}
use Rattle.idl_tree.specs.declared.names.Leaf.{Leaf}
use Rattle.idl_tree.specs.declared.definitions.Const.{Const}
use Rattle.idl_tree.specs.declared.types.Declarator.{Declarator}
use Rattle.idl_tree.specs.Yields.{const_expr_yield}
use Rattle.idl_tree.specs.declared.kinds.EntryKind.TheVariants.{Enum, Enumerator, Typedef, Const as Const'}
use Rattle.name_table.specs.declared.entry.Meaning.{Meaning}
use Rattle.scoped_names.specs.Constants.{declarator_kind}
use Rattle.name_table.specs.declared.const_values.constant.Constant.{Constant}
use Rattle.name_table.specs.declared.const_values.constant.Constant.TheVariants as Constants
use Rattle.name_table.specs.declared.const_values.kind.ConstKind.{ConstKind}
use Rattle.name_table.specs.declared.const_values.kind.ConstKind.TheVariants as Kinds

-- a name for a type that is in the end of the kind, if it is a type of constants
abbrev pub typedef_meant : Option ConstKind → Declarator → Meaning
typedef_meant kind d =
    record { token = d.identifier.number; kind = Typedef; worth = None; stands_for = declarator_kind kind d }

-- the n-th entry is the enumeration
abbrev pub enum_meant : ℕ → Leaf → Meaning
enum_meant n l = record { token = l.number; kind = Enum; worth = None; stands_for = Some (Kinds.Enum n) }

-- the n-th entry is an enumerator of the enumeration that is the entry `owner`
abbrev pub enumerator_meant : ℕ → ℕ → Leaf → Meaning
enumerator_meant owner n l =
    record { token = l.number; kind = Enumerator; worth = Some (Constants.Enumerator n owner); stands_for = None }

-- the number of the semicolon behind a constant: the identifier, `=`, the value
abbrev pub const_end : Const → ℕ
const_end c = c.identifier.number + 2 + length (const_expr_yield c.value)

-- a constant is found from its end on
abbrev pub const_meant : Const → Constant → Meaning
const_meant c worth = record { token = const_end c; kind = Const'; worth = Some worth; stands_for = None }

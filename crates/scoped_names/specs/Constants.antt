-- What constant expressions are worth where names are found by their scope (ISO/IEC 19500-1, constant declaration).
use Rattle.std.specs.Prelude.{ℕ, nat_lt, cond, length, List, Option, Some, None, slice_get}
use Rattle.idl_tree.specs.declared.names.ScopedName.{ScopedName}
use Rattle.idl_tree.specs.declared.expression.Expr.{Expr}
use Rattle.idl_tree.specs.declared.types.Declarator.{Declarator}
use Rattle.name_table.specs.declared.const_values.constant.Constant.{Constant}
use Rattle.name_table.specs.declared.const_values.kind.ConstKind.{ConstKind}
use Rattle.name_table.specs.Kinds.{of_kind}
use Rattle.name_table.specs.Worth.{worth, whole_number, positive}
use Rattle.name_table.specs.Entry.{Entry, worth_in, meant_in}
use Rattle.name_table.specs.declared.search.Found.{Found}
use Rattle.name_table.specs.declared.search.Found.TheVariants.{Nothing, One, Several}
use Rattle.name_table.specs.Search.{finds}

abbrev pub worth_found : List Entry → Found → Option Constant
worth_found es Nothing = None
worth_found es (One e) = worth_in (slice_get es e)
worth_found es (Several a b) = None

-- a name is worth what the constant or the enumerator is worth that it finds
abbrev pub named_worth : List Entry → ℕ → ScopedName → Option Constant
named_worth es scope name = worth_found es (finds es scope name)

-- what an expression is worth that stands in the scope
abbrev pub worth_in_scope : List Entry → ℕ → Expr → Option Constant
worth_in_scope es scope e = worth (named_worth es scope) e

-- a bound or a size
abbrev pub size_in_scope : List Entry → ℕ → Expr → Option ℕ
size_in_scope es scope e = positive (whole_number (worth_in_scope es scope e))

-- ---- types of constants

abbrev pub meant_found : List Entry → Found → Option ConstKind
meant_found es Nothing = None
meant_found es (One e) = meant_in (slice_get es e)
meant_found es (Several a b) = None

-- an array is none
abbrev pub declarator_kind : Option ConstKind → Declarator → Option ConstKind
declarator_kind kind d = cond (nat_lt 0 (length d.sizes.items)) None kind

-- the worth, where it is of the type
abbrev pub of_type : Option ConstKind → Option Constant → Option Constant
of_type None w = None
of_type (Some kind) w = of_kind kind w

-- What is asked of names and constant expressions (ISO/IEC 19500-1, scoping rules and name resolution, constant
-- declaration): which fault they have, if any. In an expression the names are judged first, in the order of reading,
-- and then what it is worth.
use Rattle.std.specs.Prelude.{ℕ, Bool, true, false, if◌then◌else◌, List, Option, Some, None, Result, Ok, Err, slice_get}
use Rattle.idl_tree.specs.declared.names.ScopedName.{ScopedName}
use Rattle.idl_tree.specs.declared.expression.Expr.{Expr, Name, Number, Character, Text, Boolean, Parenthesized', Signed', Chain', Row_of-Operand, end_of-Operand, more_of-Operand}
use Rattle.idl_tree.specs.declared.expression.Operand.{Operand}
use Rattle.idl_tree.specs.Starts.{expr_start, leaf_at as at, name_start}
use Rattle.name_table.specs.declared.const_values.constant.Constant.{Constant}
use Rattle.name_table.specs.declared.const_values.kind.ConstKind.{ConstKind}
use Rattle.name_table.specs.Worth.{whole_number, positive}
use Rattle.idl_tree.specs.declared.kinds.EntryKind.{EntryKind}
use Rattle.idl_tree.specs.declared.kinds.EntryKind.TheVariants.{Module, Interface, Struct, Union, Enum, Enumerator, Typedef, Const, Exception, Operation, Attribute}
use Rattle.idl_tree.specs.declared.names.At.{At}
use Rattle.scoped_names.specs.declared.fault.Flaw.{Flaw}
use Rattle.scoped_names.specs.declared.fault.Flaw.TheVariants.{NoConstant, NoWorth, NotOfType, NotPositive}
use Rattle.scoped_names.specs.declared.fault.NameFault.{NameFault}
use Rattle.scoped_names.specs.declared.fault.NameFault.TheVariants.{Unknown, CaseDiffers, Ambiguous, NotAType, BadConstant}
use Rattle.name_table.specs.declared.search.Sight.{Sight}
use Rattle.name_table.specs.declared.search.Sight.TheVariants.{Unseen, OtherCase, Unclear, Seen}
use Rattle.name_table.specs.Entry.{Entry, worth_in}
use Rattle.name_table.specs.Search.{sees}
use Rattle.scoped_names.specs.Constants.{of_type, worth_in_scope}
use Rattle.scoped_names.specs.Reading.{Test, ◌>>◌}

-- where an entry is declared first
abbrev pub at_entry : Option Entry → Option At
at_entry None = None
at_entry (Some e) = Some (record { token = e.identifier; line = e.line })

-- ---- names

abbrev pub found_at : List Entry → At → Sight → Result ℕ NameFault
found_at es here (Seen e) = Ok e
found_at es here Unseen = Err (Unknown here)
found_at es here (OtherCase e) = Err (CaseDiffers here (at_entry (slice_get es e)))
found_at es here (Unclear a b) = Err (Ambiguous here (at_entry (slice_get es a)) (at_entry (slice_get es b)))

-- the entry that a name finds that stands in the scope
abbrev pub resolved : List Entry → ℕ → ScopedName → Result ℕ NameFault
resolved es scope name = found_at es (at (name_start name)) (sees es scope name)

abbrev pub is_type : EntryKind → Bool
is_type Module = false
is_type Interface = true
is_type Struct = true
is_type Union = true
is_type Enum = true
is_type Enumerator = false
is_type Typedef = true
is_type Const = false
is_type Exception = false
is_type Operation = false
is_type Attribute = false

abbrev pub is_exception : EntryKind → Bool
is_exception Exception = true
is_exception _ = false

abbrev pub is_of : (EntryKind → Bool) → Option Entry → Bool
is_of wanted None = false
is_of wanted (Some e) = wanted e.kind

abbrev pub kind_in : Option Entry → Option EntryKind
kind_in None = None
kind_in (Some e) = Some e.kind

-- a name that has to find something of a kind
abbrev pub found_of : (EntryKind → Bool) → List Entry → ℕ → ScopedName → Test
found_of wanted es scope name = resolved es scope name >> λ e.
    (if is_of wanted (slice_get es e) then Ok tt else Err (NotAType (at (name_start name)) (kind_in (slice_get es e))))

abbrev pub type_name_test : List Entry → ℕ → ScopedName → Test
type_name_test es scope name = found_of is_type es scope name

-- what an operation or an attribute raises
abbrev pub raised_test : List Entry → ℕ → ScopedName → Test
raised_test es scope name = found_of is_exception es scope name

-- ---- expressions

abbrev pub or_bad : {T : Type 0} → Flaw → At → Option T → Result T NameFault
or_bad why here None = Err (BadConstant here why)
or_bad why here (Some x) = Ok x

-- a name in an expression has to find a constant or an enumerator
abbrev pub constant_test : List Entry → ℕ → ScopedName → Test
constant_test es scope name = resolved es scope name >> λ e.
    or_bad NoConstant (at (name_start name)) (worth_in (slice_get es e)) >> λ c. Ok tt

abbrev mutual
  pub names_test : List Entry → ℕ → Expr → Test
  names_test es scope (Name name) = constant_test es scope name
  names_test es scope (Number l) = Ok tt
  names_test es scope (Character l) = Ok tt
  names_test es scope (Text ls) = Ok tt
  names_test es scope (Boolean b word) = Ok tt
  names_test es scope (Parenthesized' l p inner) = names_test es scope inner
  names_test es scope (Signed' m s p inner) = names_test es scope inner
  names_test es scope (Chain' p first shape rest) = names_test es scope first >> λ u. operands_test es scope rest

  pub operands_test : {n : _} → List Entry → ℕ → Row_of-Operand n → Test
  operands_test es scope end_of-Operand = Ok tt
  operands_test es scope (more_of-Operand o e rest) = names_test es scope e >> λ u. operands_test es scope rest

abbrev pub operand_test : List Entry → ℕ → Operand → Test
operand_test es scope x = names_test es scope x.operand

-- what an expression is worth that stands in the scope
abbrev pub value_read : List Entry → ℕ → Expr → Result Constant NameFault
value_read es scope e =
    names_test es scope e >> λ u. or_bad NoWorth (at (expr_start e)) (worth_in_scope es scope e)

-- what it is worth as a bound or a size, which is a whole number of at least 1
abbrev pub size_read : List Entry → ℕ → Expr → Result ℕ NameFault
size_read es scope e =
    value_read es scope e >> λ c. or_bad NotPositive (at (expr_start e)) (positive (whole_number (Some c)))

-- what it is worth as a constant of the type
abbrev pub value_of_type : Option ConstKind → List Entry → ℕ → Expr → Result Constant NameFault
value_of_type kind es scope e =
    value_read es scope e >> λ c. or_bad NotOfType (at (expr_start e)) (of_type kind (Some c))

-- What is asked of names, expressions and types of one shape, and what is found.
use Rattle.std.proofs.Common.{◌≡◌, ◌+◌, ℕ, Bool, if◌then◌else◌, nat_lt, cond, List, length, Option, Some, None, Result, Ok, Err, slice_get, refl, ap, ap₂, ◌∙◌}
use Rattle.idl_tree.specs.declared.names.Leaf.{Leaf}
use Rattle.idl_tree.specs.declared.names.ScopedName.{ScopedName}
use Rattle.idl_tree.specs.declared.expression.Expr.{Expr, Name, Number, Character, Text, Boolean, Parenthesized', Signed', Chain', Row_of-Operand, end_of-Operand, more_of-Operand}
use Rattle.idl_tree.specs.declared.const_expr.Bound.{Bound}
use Rattle.idl_tree.specs.declared.types.Integer.{Integer}
use Rattle.idl_tree.specs.declared.types.Integer.TheVariants.{Signed, Unsigned}
use Rattle.idl_tree.specs.declared.types.IntegerSize.{IntegerSize}
use Rattle.idl_tree.specs.declared.types.IntegerSize.TheVariants.{Short, Long, LongLong}
use Rattle.idl_tree.specs.declared.types.ConstType.{ConstType}
use Rattle.idl_tree.specs.declared.types.ConstType.TheVariants as ConstTypes
use Rattle.idl_tree.specs.declared.types.ParamType.{ParamType}
use Rattle.idl_tree.specs.declared.types.ParamType.TheVariants as ParamTypes
use Rattle.idl_tree.specs.declared.types.SimpleType.{SimpleType, Plain, Sequence'}
use Rattle.idl_tree.specs.declared.types.Declarator.{Declarator}
use Rattle.idl_tree.specs.declared.definitions.Const.{Const}
use Rattle.idl_tree.specs.declared.kinds.EntryKind.{EntryKind}
use Rattle.idl_tree.specs.declared.kinds.EntryKind.TheVariants.{Enum, Enumerator, Typedef, Const as Const'}
use Rattle.name_table.specs.Worth.{whole_number, positive}
use Rattle.name_table.specs.declared.const_values.constant.Constant.{Constant}
use Rattle.name_table.specs.declared.const_values.constant.Constant.TheVariants as Constants
use Rattle.name_table.specs.declared.const_values.kind.ConstKind.{ConstKind}
use Rattle.name_table.specs.declared.const_values.kind.ConstKind.TheVariants as Kinds
use Rattle.name_table.specs.Entry.{Entry, worth_in}
use Rattle.name_table.specs.declared.entry.Meaning.{Meaning}
use Rattle.scoped_names.specs.Constants.{meant_found, named_worth, of_type, worth_found, worth_in_scope}
use Rattle.scoped_names.specs.Meanings.{const_meant, enum_meant, enumerator_meant, typedef_meant}
use Rattle.scoped_names.specs.Reading.{◌>>◌}
use Rattle.scoped_names.specs.Tests.{constant_test, found_at, found_of, is_of, kind_in, names_test, operands_test, or_bad, resolved, size_read, value_of_type, value_read}
use Rattle.scoped_names.specs.TypeKinds.{const_type_kind, known, param_type_kind, simple_type_kind, string_kind}
use Rattle.scoped_names.specs.declared.fault.Flaw.TheVariants.{NoConstant, NoWorth, NotOfType, NotPositive}
use Rattle.scoped_names.specs.declared.fault.NameFault.TheVariants.{NotAType}
use Rattle.idl_tree.specs.Shapes.{leaf_shape, optional_shape, name_shape, expr_shape, operands_shape, bound_shape, const_expr_shape}
use Rattle.idl_tree.specs.TypeShapes.{integer_size_shape, integer_shape, const_type_shape, param_type_shape, simple_type_shape, declarator_shape}
use Rattle.idl_tree.specs.DefinitionShapes.{const_shape}
use Rattle.shape_laws.proofs.Apart.{apart}
use Rattle.shape_laws.proofs.Starts.{name_at, expr_at}
use Rattle.shape_laws.proofs.NameWords.{length_same, leaf_number, sees_same, finds_same}
use Rattle.shape_laws.proofs.NameWorth.{worth_same, expr_pieces}

-- ---- one thing and then another

under : {A B E : Type 0} (x : Result A E) (f g : A → Result B E) → ((v : A) → f v ≡ g v) → (x >> f) ≡ (x >> g)
under (Ok v) f g h = h v
under (Err fault) f g h = refl

pub bind_same : {A B E : Type 0} (x y : Result A E) (f g : A → Result B E) → x ≡ y → ((v : A) → f v ≡ g v)
    → (x >> f) ≡ (y >> g)
bind_same x y f g h k = ap (λ r. r >> f) h ∙ under y f g k

-- ---- names

pub resolved_same : (es : List Entry) (scope : ℕ) (a b : ScopedName) → name_shape a ≡ name_shape b
    → resolved es scope a ≡ resolved es scope b
resolved_same es scope a b h = ap₂ (found_at es) (name_at a b h) (sees_same es scope a b h)

pub found_same : (wanted : EntryKind → Bool) (es : List Entry) (scope : ℕ) (a b : ScopedName)
    → name_shape a ≡ name_shape b
    → found_of wanted es scope a ≡ found_of wanted es scope b
found_same wanted es scope a b h =
    bind_same (resolved es scope a) (resolved es scope b) _ _ (resolved_same es scope a b h)
    (λ e. ap (λ p. (if is_of wanted (slice_get es e) then Ok tt else Err (NotAType p (kind_in (slice_get es e)))))
    (name_at a b h))

-- ---- expressions

constant_same : (es : List Entry) (scope : ℕ) (a b : ScopedName) → name_shape a ≡ name_shape b
    → constant_test es scope a ≡ constant_test es scope b
constant_same es scope a b h =
    bind_same (resolved es scope a) (resolved es scope b) _ _ (resolved_same es scope a b h)
    (λ e. ap (λ p. or_bad NoConstant p (worth_in (slice_get es e)) >> λ c. Ok tt) (name_at a b h))

mutual
  names_same : (es : List Entry) (scope : ℕ) (a b : Expr) → expr_shape a ≡ expr_shape b
      → names_test es scope a ≡ names_test es scope b
  names_same es scope (Name n) (Name m) h = constant_same es scope n m cc
  names_same es scope (Number l) (Number m) h = refl
  names_same es scope (Character l) (Character m) h = refl
  names_same es scope (Text ls) (Text ms) h = refl
  names_same es scope (Boolean b l) (Boolean c m) h = refl
  names_same es scope (Parenthesized' l p inner) (Parenthesized' m q other) h = names_same es scope inner other cc
  names_same es scope (Signed' l s p inner) (Signed' m t q other) h = names_same es scope inner other cc
  names_same es scope (Chain' p first form rest) (Chain' q other form' more) h =
      let k : operands_test es scope rest ≡ operands_test es scope more = operands_same es scope rest more cc in
      bind_same (names_test es scope first) (names_test es scope other) (λ u. operands_test es scope rest)
      (λ u. operands_test es scope more)
      (names_same es scope first other cc) (λ u. k)
  names_same es scope a b h = apart h refl

  operands_same : {n k : _} (es : List Entry) (scope : ℕ) (a : Row_of-Operand n) (b : Row_of-Operand k)
      → operands_shape a ≡ operands_shape b
      → operands_test es scope a ≡ operands_test es scope b
  operands_same es scope end_of-Operand end_of-Operand h = refl
  operands_same es scope (more_of-Operand o inner rest) (more_of-Operand p other more) h =
      let k : operands_test es scope rest ≡ operands_test es scope more = operands_same es scope rest more cc in
      bind_same (names_test es scope inner) (names_test es scope other) (λ u. operands_test es scope rest)
      (λ u. operands_test es scope more)
      (names_same es scope inner other cc) (λ u. k)
  operands_same es scope a b h = absurd cc

in_scope_same : (es : List Entry) (scope : ℕ) (a b : Expr) → expr_shape a ≡ expr_shape b
    → worth_in_scope es scope a ≡ worth_in_scope es scope b
in_scope_same es scope a b h =
    worth_same (named_worth es scope) (λ n m k. ap (worth_found es) (finds_same es scope n m k)) a b h

pub value_same : (es : List Entry) (scope : ℕ) (a b : Expr) → expr_shape a ≡ expr_shape b
    → value_read es scope a ≡ value_read es scope b
value_same es scope a b h =
    bind_same (names_test es scope a) (names_test es scope b) _ _ (names_same es scope a b h)
    (λ u. ap₂ (or_bad NoWorth) (expr_at a b h) (in_scope_same es scope a b h))

pub size_same : (es : List Entry) (scope : ℕ) (a b : Expr) → expr_shape a ≡ expr_shape b
    → size_read es scope a ≡ size_read es scope b
size_same es scope a b h =
    bind_same (value_read es scope a) (value_read es scope b) _ _ (value_same es scope a b h)
    (λ c. ap (λ p. or_bad NotPositive p (positive (whole_number (Some c)))) (expr_at a b h))

pub of_type_same : (kind other : Option ConstKind) → kind ≡ other → (es : List Entry) (scope : ℕ) (a b : Expr)
    → expr_shape a ≡ expr_shape b
    → value_of_type kind es scope a ≡ value_of_type other es scope b
of_type_same kind other e es scope a b h =
    bind_same (value_read es scope a) (value_read es scope b) _ _ (value_same es scope a b h)
    (λ c. ap₂ (λ p k. or_bad NotOfType p (of_type k (Some c))) (expr_at a b h) e)

-- ---- types of constants

integer_size_same : (a b : IntegerSize) → integer_size_shape a ≡ integer_size_shape b → a ≡ b
integer_size_same Short Short h = refl
integer_size_same Long Long h = refl
integer_size_same LongLong LongLong h = refl
integer_size_same a b h = apart h refl

pub integer_same : (a b : Integer) → integer_shape a ≡ integer_shape b → a ≡ b
integer_same (Signed s) (Signed r) h = ap Signed (integer_size_same s r cc)
integer_same (Unsigned s) (Unsigned r) h = ap Unsigned (integer_size_same s r cc)
integer_same a b h = apart h refl

string_same : (es : List Entry) (scope : ℕ) (a b : Option Bound)
    → optional_shape bound_shape a ≡ optional_shape bound_shape b
    → string_kind es scope a ≡ string_kind es scope b
string_same es scope None None h = refl
string_same es scope (Some a) (Some b) h =
    ap (λ r. Kinds.String (known r)) (size_same es scope a.expr.value b.expr.value cc)
string_same es scope a b h = absurd cc

pub const_kind_same : (es : List Entry) (scope : ℕ) (a b : ConstType) → const_type_shape a ≡ const_type_shape b
    → const_type_kind es scope a ≡ const_type_kind es scope b
const_kind_same es scope (ConstTypes.Integer i) (ConstTypes.Integer j) h =
    ap (λ k. Some (Kinds.Integer k)) (integer_same i j cc)
const_kind_same es scope ConstTypes.Char ConstTypes.Char h = refl
const_kind_same es scope ConstTypes.Boolean ConstTypes.Boolean h = refl
const_kind_same es scope ConstTypes.Octet ConstTypes.Octet h = refl
const_kind_same es scope (ConstTypes.String a) (ConstTypes.String b) h = ap Some (string_same es scope a b cc)
const_kind_same es scope (ConstTypes.Name n) (ConstTypes.Name m) h = ap (meant_found es) (finds_same es scope n m cc)
const_kind_same es scope a b h = apart h refl

param_kind_same : (es : List Entry) (scope : ℕ) (a b : ParamType) → param_type_shape a ≡ param_type_shape b
    → param_type_kind es scope a ≡ param_type_kind es scope b
param_kind_same es scope (ParamTypes.Plain t) (ParamTypes.Plain u) h = const_kind_same es scope t u cc
param_kind_same es scope ParamTypes.Object ParamTypes.Object h = refl
param_kind_same es scope a b h = apart h refl

pub simple_kind_same : (es : List Entry) (scope : ℕ) (a b : SimpleType) → simple_type_shape a ≡ simple_type_shape b
    → simple_type_kind es scope a ≡ simple_type_kind es scope b
simple_kind_same es scope (Plain t) (Plain u) h = param_kind_same es scope t u cc
simple_kind_same es scope (Sequence' p e bound) (Sequence' q f other) h = refl
simple_kind_same es scope a b h = apart h refl

-- ---- what identifiers are declared as

abbrev typedef_at : ℕ → Option ConstKind → Meaning
typedef_at token kind = record { token = token; kind = Typedef; worth = None; stands_for = kind }

pub typedef_meant_same : (kind other : Option ConstKind) → kind ≡ other → (a b : Declarator)
    → declarator_shape a ≡ declarator_shape b
    → typedef_meant kind a ≡ typedef_meant other b
typedef_meant_same kind other e a b h =
    ap₂ typedef_at (leaf_number a.identifier b.identifier cc)
    (ap₂ (λ n k. cond (nat_lt 0 n) None k) (length_same const_expr_shape a.sizes.items b.sizes.items cc) e)

pub enum_meant_same : (n : ℕ) (a b : Leaf) → leaf_shape a ≡ leaf_shape b → enum_meant n a ≡ enum_meant n b
enum_meant_same n a b h = ap (λ t. record { token = t; kind = Enum; worth = None; stands_for = Some (Kinds.Enum n) })
    (leaf_number a b h)

pub enumerator_meant_same : (owner n : ℕ) (a b : Leaf) → leaf_shape a ≡ leaf_shape b
    → enumerator_meant owner n a ≡ enumerator_meant owner n b
enumerator_meant_same owner n a b h =
    ap (λ t. record { token = t; kind = Enumerator; worth = Some (Constants.Enumerator n owner); stands_for = None })
    (leaf_number a b h)

pub const_meant_same : (worth : Constant) (a b : Const) → const_shape a ≡ const_shape b
    → const_meant a worth ≡ const_meant b worth
const_meant_same worth a b h =
    ap₂ (λ t n. record { token = t + 2 + n; kind = Const'; worth = Some worth; stands_for = None })
    (leaf_number a.identifier b.identifier cc)
    (ap length (expr_pieces a.value.expr b.value.expr cc))

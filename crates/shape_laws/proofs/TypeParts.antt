-- Types of one shape that hold no members, arrays and enumerations are lowered to the same.
use Rattle.std.proofs.Common.{◌≡◌, ℕ, List, [], ◌∷◌, Option, Some, None, Ok, refl, ap}
use Rattle.idl_tree.specs.declared.names.At.{At}
use Rattle.idl_tree.specs.declared.names.Leaf.{Leaf}
use Rattle.idl_tree.specs.declared.names.ScopedName.{ScopedName}
use Rattle.idl_tree.specs.declared.const_expr.ConstExpr.{ConstExpr}
use Rattle.idl_tree.specs.declared.const_expr.Bound.{Bound}
use Rattle.idl_tree.specs.declared.types.ConstType.{ConstType}
use Rattle.idl_tree.specs.declared.types.ConstType.TheVariants as ConstTypes
use Rattle.idl_tree.specs.declared.types.ParamType.{ParamType}
use Rattle.idl_tree.specs.declared.types.ParamType.TheVariants as ParamTypes
use Rattle.idl_tree.specs.declared.types.SimpleType.{SimpleType, Plain, Sequence'}
use Rattle.idl_tree.specs.declared.types.Declarator.{Declarator}
use Rattle.idl_tree.specs.declared.types.EnumType.{EnumType}
use Rattle.idl_tree.specs.Lists.{parts}
use Rattle.type_graph.specs.declared.fault.GraphLimit.TheVariants.{Enumerators, Bound as BoundLimit, Size}
use Rattle.type_graph.specs.declared.node.Node.TheVariants.{Text, Seq, Enum}
use Rattle.name_table.specs.Entry.{Entry, named}
use Rattle.name_table.specs.Search.{word}
use Rattle.scoped_names.specs.Reading.{◌>>◌}
use Rattle.lowered_types.specs.Faults.{at_most, max_bound, max_enumerators, max_size, of_names, or_other}
use Rattle.lowered_types.specs.Lowered.{Lowered, Numbered, already, added_at, named_type, type_of}
use Rattle.lowered_types.specs.SimpleTypes.{entry_of, entry_found, type_found, size_of, bound_of, bound_or_none, integer_number, const_type, param_type, simple_type, sizes_read, arrays, declarator_at, array_type, enum_type}
use Rattle.idl_tree.specs.Shapes.{leaf_shape, optional_shape, list_shape, name_shape, const_expr_shape, bound_shape}
use Rattle.idl_tree.specs.TypeShapes.{const_type_shape, param_type_shape, simple_type_shape, declarator_shape, enum_shape}
use Rattle.shape_laws.proofs.Apart.{apart}
use Rattle.shape_laws.proofs.NameTests.{integer_same, resolved_same, size_same}
use Rattle.shape_laws.proofs.NameWords.{length_same, map_same, word_same}
use Rattle.shape_laws.proofs.Starts.{leaf_same, expr_at}

-- ---- what names and expressions say

pub entry_same : (es : List Entry) (scope : ℕ) (a b : Leaf) → leaf_shape a ≡ leaf_shape b
    → entry_of es scope a ≡ entry_of es scope b
entry_same es scope a b h = λ i. or_other (named es scope (word_same a b h i))

pub entry_found_same : (es : List Entry) (scope : ℕ) (a b : ScopedName) → name_shape a ≡ name_shape b
    → entry_found es scope a ≡ entry_found es scope b
entry_found_same es scope a b h = ap of_names (resolved_same es scope a b h)

pub type_found_same : (es : List Entry) (w : Lowered) (scope : ℕ) (a b : ScopedName) → name_shape a ≡ name_shape b
    → type_found es w scope a ≡ type_found es w scope b
type_found_same es w scope a b h = λ i. entry_found_same es scope a b h i >> λ e. or_other (type_of w e)

size_of_same : (es : List Entry) (scope : ℕ) (a b : ConstExpr) → const_expr_shape a ≡ const_expr_shape b
    → size_of es scope a ≡ size_of es scope b
size_of_same es scope a b h =
    λ i. of_names (size_same es scope a.expr b.expr h i) >> λ n. at_most max_size Size (expr_at a.expr b.expr h i) n

bound_same : (es : List Entry) (scope : ℕ) (a b : Bound) → bound_shape a ≡ bound_shape b
    → bound_of es scope a ≡ bound_of es scope b
bound_same es scope a b h =
    λ i. of_names (size_same es scope a.expr.value b.expr.value h i) >> λ n. at_most max_bound BoundLimit
    (expr_at a.expr.value b.expr.value h i) n

bound_or_none_same : (es : List Entry) (scope : ℕ) (a b : Option Bound)
    → optional_shape bound_shape a ≡ optional_shape bound_shape b
    → bound_or_none es scope a ≡ bound_or_none es scope b
bound_or_none_same es scope None None h = refl
bound_or_none_same es scope (Some a) (Some b) h = bound_same es scope a b cc
bound_or_none_same es scope a b h = absurd cc

-- ---- types

bounded_same : (es : List Entry) (w : Lowered) (scope : ℕ) (a b : Option Bound)
    → optional_shape bound_shape a ≡ optional_shape bound_shape b
    → const_type es w scope (ConstTypes.String a) ≡ const_type es w scope (ConstTypes.String b)
bounded_same es w scope None None h = refl
bounded_same es w scope (Some a) (Some b) h =
    let bounds : bound_shape a ≡ bound_shape b = cc in
    λ i. bound_same es scope a b bounds i >> λ most. added_at w (Text most) (expr_at a.expr.value b.expr.value bounds i)
bounded_same es w scope a b h = absurd cc

pub const_type_same : (es : List Entry) (w : Lowered) (scope : ℕ) (a b : ConstType)
    → const_type_shape a ≡ const_type_shape b
    → const_type es w scope a ≡ const_type es w scope b
const_type_same es w scope (ConstTypes.Integer a) (ConstTypes.Integer b) h =
    ap (λ n. Ok (already w (integer_number n))) (integer_same a b cc)
const_type_same es w scope ConstTypes.Octet ConstTypes.Octet h = refl
const_type_same es w scope ConstTypes.Char ConstTypes.Char h = refl
const_type_same es w scope ConstTypes.Boolean ConstTypes.Boolean h = refl
const_type_same es w scope (ConstTypes.String a) (ConstTypes.String b) h = bounded_same es w scope a b cc
const_type_same es w scope (ConstTypes.Name a) (ConstTypes.Name b) h =
    let names : name_shape a ≡ name_shape b = cc in
    λ i. type_found_same es w scope a b names i >> λ n. Ok (already w n)
const_type_same es w scope a b h = apart h refl

pub param_type_same : (es : List Entry) (w : Lowered) (scope : ℕ) (a b : ParamType)
    → param_type_shape a ≡ param_type_shape b
    → param_type es w scope a ≡ param_type es w scope b
param_type_same es w scope (ParamTypes.Plain a) (ParamTypes.Plain b) h = const_type_same es w scope a b cc
param_type_same es w scope ParamTypes.Object ParamTypes.Object h = refl
param_type_same es w scope a b h = apart h refl

-- types that stand at one place
pub simple_type_same : (es : List Entry) (w : Lowered) (scope : ℕ) (at to : At) → at ≡ to → (a b : SimpleType)
    → simple_type_shape a ≡ simple_type_shape b
    → simple_type es w scope at a ≡ simple_type es w scope to b
simple_type_same es w scope at to p (Plain a) (Plain b) h = param_type_same es w scope a b cc
simple_type_same es w scope at to p (Sequence' q element bound) (Sequence' r other most) h =
    let elements : simple_type_shape element ≡ simple_type_shape other = cc in
    let bounds : optional_shape bound_shape bound ≡ optional_shape bound_shape most = cc in
    λ i. simple_type_same es w scope at to p element other elements i >> λ e.
    bound_or_none_same es scope bound most bounds i >> λ n. added_at e.lowered (Seq e.number n) (p i)
simple_type_same es w scope at to p a b h = apart h refl

-- ---- arrays and enumerations

sizes_same : (es : List Entry) (scope : ℕ) (xs ys : List ConstExpr)
    → list_shape const_expr_shape xs ≡ list_shape const_expr_shape ys
    → sizes_read es scope xs ≡ sizes_read es scope ys
sizes_same es scope [] [] h = refl
sizes_same es scope (x ∷ xs) (y ∷ ys) h =
    let first : const_expr_shape x ≡ const_expr_shape y = cc in
    let rest : list_shape const_expr_shape xs ≡ list_shape const_expr_shape ys = cc in
    λ i. size_of_same es scope x y first i >> λ n. sizes_same es scope xs ys rest i >> λ ns. Ok (n ∷ ns)
sizes_same es scope xs ys h = absurd cc

pub declarator_name : (a b : Declarator) → declarator_shape a ≡ declarator_shape b
    → leaf_shape a.identifier ≡ leaf_shape b.identifier
declarator_name a b h = cc

declarator_sizes : (a b : Declarator) → declarator_shape a ≡ declarator_shape b
    → list_shape const_expr_shape a.sizes.items ≡ list_shape const_expr_shape b.sizes.items
declarator_sizes a b h = cc

pub declarator_word : (a b : Declarator) → declarator_shape a ≡ declarator_shape b
    → word a.identifier ≡ word b.identifier
declarator_word a b h = word_same a.identifier b.identifier (declarator_name a b h)

pub declarator_place : (a b : Declarator) → declarator_shape a ≡ declarator_shape b → declarator_at a ≡ declarator_at b
declarator_place a b h = leaf_same a.identifier b.identifier (declarator_name a b h)

pub array_same : (es : List Entry) (scope : ℕ) (element : Numbered) (a b : Declarator)
    → declarator_shape a ≡ declarator_shape b
    → array_type es scope element a ≡ array_type es scope element b
array_same es scope element a b h =
    λ i. sizes_same es scope a.sizes.items b.sizes.items (declarator_sizes a b h) i >> λ ns. arrays element
    (declarator_place a b h i) ns

pub enum_name : (a b : EnumType) → enum_shape a ≡ enum_shape b → leaf_shape a.identifier ≡ leaf_shape b.identifier
enum_name a b h = cc

enumerators_shape : (a b : EnumType) → enum_shape a ≡ enum_shape b
    → list_shape leaf_shape (parts a.enumerators.value) ≡ list_shape leaf_shape (parts b.enumerators.value)
enumerators_shape a b h = cc

pub enum_same : (es : List Entry) (w : Lowered) (scope : ℕ) (a b : EnumType) → enum_shape a ≡ enum_shape b
    → enum_type es w scope a ≡ enum_type es w scope b
enum_same es w scope a b h =
    let name = enum_name a b h in
    let at = leaf_same a.identifier b.identifier name in
    let count = length_same leaf_shape (parts a.enumerators.value) (parts b.enumerators.value) (enumerators_shape a b h)
    in
    let words = map_same leaf_shape word word_same (parts a.enumerators.value) (parts b.enumerators.value)
    (enumerators_shape a b h) in
    λ i. entry_same es scope a.identifier b.identifier name i >> λ entry.
    at_most max_enumerators Enumerators (at i) (count i) >> λ n. named_type w entry (Enum n) (words i) (at i)

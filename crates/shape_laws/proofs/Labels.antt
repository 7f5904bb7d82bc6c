-- Discriminators and labels of one shape are read as the same.
use Rattle.std.proofs.Common.{◌≡◌, ℕ, codes, List, Some, Ok, slice_get, refl, ap}
use Rattle.idl_tree.specs.declared.names.At.{At}
use Rattle.idl_tree.specs.declared.expression.Expr.{Expr}
use Rattle.idl_tree.specs.declared.types.Label.{Label}
use Rattle.idl_tree.specs.declared.types.Label.TheVariants as Labels
use Rattle.idl_tree.specs.declared.types.SwitchType.{SwitchType}
use Rattle.idl_tree.specs.declared.types.SwitchType.TheVariants as SwitchTypes
use Rattle.name_table.specs.declared.const_values.kind.ConstKind.TheVariants as Kinds
use Rattle.name_table.specs.Entry.{Entry, meant_in}
use Rattle.scoped_names.specs.Reading.{◌>>◌}
use Rattle.lowered_types.specs.Faults.{of_names}
use Rattle.lowered_types.specs.TypeKinds.{kind_of}
use Rattle.lowered_types.specs.Lowered.{Lowered, already}
use Rattle.lowered_types.specs.Labels.{switch_type, switch_kind, values_of, switch_of, switched, switch_at, switch_read, label_number, label_within, label_value, Arms, CaseLabels, value_added, default_added, label_added}
use Rattle.lowered_types.specs.SimpleTypes.{integer_number}
use Rattle.idl_tree.specs.Shapes.{name_shape, const_expr_shape, expr_shape}
use Rattle.idl_tree.specs.TypeShapes.{enum_shape, switch_shape, label_shape}
use Rattle.shape_laws.proofs.Apart.{apart}
use Rattle.shape_laws.proofs.NameTests.{integer_same, value_same}
use Rattle.shape_laws.proofs.Starts.{leaf_same, token_at, name_at, expr_at}
use Rattle.shape_laws.proofs.TypeParts.{entry_same, entry_found_same, type_found_same, enum_name, enum_same}

-- ---- discriminators

switch_type_same : (es : List Entry) (w : Lowered) (scope : ℕ) (a b : SwitchType) → switch_shape a ≡ switch_shape b
    → switch_type es w scope a ≡ switch_type es w scope b
switch_type_same es w scope (SwitchTypes.Integer a) (SwitchTypes.Integer b) h =
    ap (λ n. Ok (already w (integer_number n))) (integer_same a b cc)
switch_type_same es w scope SwitchTypes.Char SwitchTypes.Char h = refl
switch_type_same es w scope SwitchTypes.Boolean SwitchTypes.Boolean h = refl
switch_type_same es w scope (SwitchTypes.Enum a) (SwitchTypes.Enum b) h = enum_same es w scope a b cc
switch_type_same es w scope (SwitchTypes.Name a) (SwitchTypes.Name b) h =
    let names : name_shape a ≡ name_shape b = cc in
    λ i. type_found_same es w scope a b names i >> λ n. Ok (already w n)
switch_type_same es w scope a b h = apart h refl

switch_kind_same : (es : List Entry) (scope : ℕ) (a b : SwitchType) → switch_shape a ≡ switch_shape b
    → switch_kind es scope a ≡ switch_kind es scope b
switch_kind_same es scope (SwitchTypes.Integer a) (SwitchTypes.Integer b) h =
    ap (λ n. Ok (Some (Kinds.Integer n))) (integer_same a b cc)
switch_kind_same es scope SwitchTypes.Char SwitchTypes.Char h = refl
switch_kind_same es scope SwitchTypes.Boolean SwitchTypes.Boolean h = refl
switch_kind_same es scope (SwitchTypes.Enum a) (SwitchTypes.Enum b) h =
    let enums : enum_shape a ≡ enum_shape b = cc in
    λ i. entry_same es scope a.identifier b.identifier (enum_name a b enums) i >> λ entry. Ok (Some (Kinds.Enum entry))
switch_kind_same es scope (SwitchTypes.Name a) (SwitchTypes.Name b) h =
    let names : name_shape a ≡ name_shape b = cc in
    λ i. entry_found_same es scope a b names i >> λ entry. Ok (meant_in (slice_get es entry))
switch_kind_same es scope a b h = apart h refl

switch_place : (at to : At) → at ≡ to → (a b : SwitchType) → switch_shape a ≡ switch_shape b
    → switch_at a at ≡ switch_at b to
switch_place at to p (SwitchTypes.Integer a) (SwitchTypes.Integer b) h = p
switch_place at to p SwitchTypes.Char SwitchTypes.Char h = p
switch_place at to p SwitchTypes.Boolean SwitchTypes.Boolean h = p
switch_place at to p (SwitchTypes.Enum a) (SwitchTypes.Enum b) h =
    let enums : enum_shape a ≡ enum_shape b = cc in leaf_same a.identifier b.identifier (enum_name a b enums)
switch_place at to p (SwitchTypes.Name a) (SwitchTypes.Name b) h = name_at a b cc
switch_place at to p a b h = apart h refl

pub switch_same : (es : List Entry) (w : Lowered) (scope : ℕ) (at to : At) → at ≡ to → (a b : SwitchType)
    → switch_shape a ≡ switch_shape b
    → switch_read es w scope at a ≡ switch_read es w scope to b
switch_same es w scope at to p a b h =
    λ i. switch_type_same es w scope a b h i >> λ t. switch_kind_same es scope a b h i >> λ kind.
    switch_of (switch_place at to p a b h i) (kind_of t.number (slice_get t.lowered.nodes t.number)) t.number kind
    (values_of (slice_get t.lowered.nodes t.number)) >> λ switch.
    Ok (switched t.lowered switch)

-- ---- labels

label_value_same : (es : List Entry) (scope : ℕ) (s : _) (a b : Expr) → expr_shape a ≡ expr_shape b
    → label_value es scope s a ≡ label_value es scope s b
label_value_same es scope s a b h =
    λ i. of_names (value_same es scope a b h i) >> λ c. label_within s (expr_at a b h i) c (label_number c)

pub label_same : (es : List Entry) (scope : ℕ) (s : _) (arms : Arms) (ls : CaseLabels) (a b : Label)
    → label_shape a ≡ label_shape b
    → label_added es scope s arms ls a ≡ label_added es scope s arms ls b
label_same es scope s arms ls (Labels.Case a) (Labels.Case b) h =
    let worths : const_expr_shape a ≡ const_expr_shape b = cc in
    λ i. label_value_same es scope s a.expr b.expr worths i >> λ n. value_added arms ls (expr_at a.expr b.expr worths i)
    n
label_same es scope s arms ls (Labels.Default l) (Labels.Default m) h =
    ap (default_added arms ls) (token_at (codes "default") (codes "default") l m cc)
label_same es scope s arms ls a b h = apart h refl

-- What a tree is but for where its parts lie in memory: of types.
use Rattle.std.specs.Prelude.{codes}
use Rattle.idl_tree.specs.declared.types.Integer.{Integer}
use Rattle.idl_tree.specs.declared.types.Integer.TheVariants.{Signed, Unsigned}
use Rattle.idl_tree.specs.declared.types.IntegerSize.{IntegerSize}
use Rattle.idl_tree.specs.declared.types.IntegerSize.TheVariants.{Short, Long, LongLong}
use Rattle.idl_tree.specs.declared.types.ConstType.{ConstType}
use Rattle.idl_tree.specs.declared.types.ConstType.TheVariants as ConstTypes
use Rattle.idl_tree.specs.declared.types.ParamType.{ParamType}
use Rattle.idl_tree.specs.declared.types.ParamType.TheVariants as ParamTypes
use Rattle.idl_tree.specs.declared.types.SimpleType.{SimpleType, Plain, Sequence'}
use Rattle.idl_tree.specs.declared.types.Declarator.{Declarator}
use Rattle.idl_tree.specs.declared.types.EnumType.{EnumType}
use Rattle.idl_tree.specs.declared.types.SwitchType.{SwitchType}
use Rattle.idl_tree.specs.declared.types.SwitchType.TheVariants as SwitchTypes
use Rattle.idl_tree.specs.declared.types.Label.{Label}
use Rattle.idl_tree.specs.declared.types.Label.TheVariants as Labels
use Rattle.idl_tree.specs.declared.types.TypeSpec.{TypeSpec, Simple, Struct, Union, Enum}
use Rattle.idl_tree.specs.declared.types.StructType.{StructType, StructType', Row_of-Member, end_of-Member, more_of-Member}
use Rattle.idl_tree.specs.declared.types.UnionType.{UnionType, UnionType', Row_of-Case, end_of-Case, more_of-Case}
use Rattle.idl_tree.specs.declared.types.Member.{Member}
use Rattle.idl_tree.specs.Shapes.{Shape, Nothing, Kind, Both, word, token_shape, leaf_shape, optional_shape, list_shape, listed_shape, name_shape, const_expr_shape, bound_shape}

abbrev pub integer_size_shape : IntegerSize → Shape
integer_size_shape Short = word (codes "short")
integer_size_shape Long = word (codes "long")
integer_size_shape LongLong = word (codes "long long")

abbrev pub integer_shape : Integer → Shape
integer_shape (Signed size) = Kind (codes "signed") (integer_size_shape size)
integer_shape (Unsigned size) = Kind (codes "unsigned") (integer_size_shape size)

abbrev pub const_type_shape : ConstType → Shape
const_type_shape (ConstTypes.Integer i) = Kind (codes "integer") (integer_shape i)
const_type_shape ConstTypes.Char = word (codes "char")
const_type_shape ConstTypes.Boolean = word (codes "boolean")
const_type_shape ConstTypes.Octet = word (codes "octet")
const_type_shape (ConstTypes.String bound) = Kind (codes "string") (optional_shape bound_shape bound)
const_type_shape (ConstTypes.Name n) = Kind (codes "name") (name_shape n)

abbrev pub param_type_shape : ParamType → Shape
param_type_shape (ParamTypes.Plain t) = Kind (codes "plain") (const_type_shape t)
param_type_shape ParamTypes.Object = word (codes "object")

abbrev pub simple_type_shape : SimpleType → Shape
simple_type_shape (Plain t) = Kind (codes "plain") (param_type_shape t)
simple_type_shape (Sequence' p element bound) =
    Kind (codes "sequence") (Both (simple_type_shape element) (optional_shape bound_shape bound))

abbrev pub declarator_shape : Declarator → Shape
declarator_shape d = Both (leaf_shape d.identifier) (list_shape const_expr_shape d.sizes.items)

abbrev pub enum_shape : EnumType → Shape
enum_shape e = Both (leaf_shape e.identifier) (listed_shape leaf_shape e.enumerators.value)

abbrev pub switch_shape : SwitchType → Shape
switch_shape (SwitchTypes.Integer i) = Kind (codes "integer") (integer_shape i)
switch_shape SwitchTypes.Char = word (codes "char")
switch_shape SwitchTypes.Boolean = word (codes "boolean")
switch_shape (SwitchTypes.Enum e) = Kind (codes "enum") (enum_shape e)
switch_shape (SwitchTypes.Name n) = Kind (codes "name") (name_shape n)

abbrev pub label_shape : Label → Shape
label_shape (Labels.Case e) = Kind (codes "case") (const_expr_shape e)
label_shape (Labels.Default l) = Kind (codes "default") (token_shape (codes "default") l)

abbrev mutual
  pub type_shape : TypeSpec → Shape
  type_shape (Simple t) = Kind (codes "simple") (simple_type_shape t)
  type_shape (Struct s) = Kind (codes "struct") (struct_shape s)
  type_shape (Union u) = Kind (codes "union") (union_shape u)
  type_shape (Enum e) = Kind (codes "enum") (enum_shape e)

  pub struct_shape : StructType → Shape
  struct_shape (StructType' id p t declarators shape rest) =
      Both (Both (leaf_shape id) (Both (type_shape t) (listed_shape declarator_shape declarators))) (members_shape rest)

  pub union_shape : UnionType → Shape
  union_shape (UnionType' id switch p labels t declarator shape rest) =
      Both (Both (Both (leaf_shape id) (switch_shape switch.value))
      (Both (Both (listed_shape label_shape labels) (type_shape t)) (declarator_shape declarator)))
      (cases_shape rest)

  pub members_shape : {n : _} → Row_of-Member n → Shape
  members_shape end_of-Member = Nothing
  members_shape (more_of-Member t declarators rest) =
      Both (Both (type_shape t) (listed_shape declarator_shape declarators)) (members_shape rest)

  pub cases_shape : {n : _} → Row_of-Case n → Shape
  cases_shape end_of-Case = Nothing
  cases_shape (more_of-Case labels t declarator rest) =
      Both (Both (Both (listed_shape label_shape labels) (type_shape t)) (declarator_shape declarator))
      (cases_shape rest)

abbrev pub member_shape : Member → Shape
member_shape m = Both (type_shape m.member_type) (listed_shape declarator_shape m.declarators)

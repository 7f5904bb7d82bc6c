-- The pieces that a tree spells, from left to right: of types.
use Rattle.std.specs.Prelude.{List, [], ◌++◌, codes}
use Rattle.std.specs.List.{flat_map}
use Rattle.idl_tree.specs.declared.const_expr.ConstExpr.{ConstExpr}
use Rattle.idl_tree.specs.declared.const_expr.Bound.{Bound}
use Rattle.idl_tree.specs.declared.types.Integer.{Integer}
use Rattle.idl_tree.specs.declared.types.Integer.TheVariants.{Signed, Unsigned}
use Rattle.idl_tree.specs.declared.types.IntegerSize.{IntegerSize}
use Rattle.idl_tree.specs.declared.types.IntegerSize.TheVariants.{Short, Long, LongLong}
use Rattle.idl_tree.specs.declared.types.ConstType.{ConstType}
use Rattle.idl_tree.specs.declared.types.ConstType.TheVariants as ConstTypes
use Rattle.idl_tree.specs.declared.types.ParamType.{ParamType}
use Rattle.idl_tree.specs.declared.types.ParamType.TheVariants as ParamTypes
use Rattle.idl_tree.specs.declared.types.SimpleType.{SimpleType, Plain, Sequence'}
use Rattle.idl_tree.specs.declared.types.Declarator.{Declarator}
use Rattle.idl_tree.specs.declared.types.EnumType.{EnumType}
use Rattle.idl_tree.specs.declared.types.SwitchType.{SwitchType}
use Rattle.idl_tree.specs.declared.types.SwitchType.TheVariants as SwitchTypes
use Rattle.idl_tree.specs.declared.types.Label.{Label}
use Rattle.idl_tree.specs.declared.types.Label.TheVariants as Labels
use Rattle.idl_tree.specs.declared.types.TypeSpec.{TypeSpec, Simple, Struct, Union, Enum}
use Rattle.idl_tree.specs.declared.types.StructType.{StructType, StructType', Row_of-Member, end_of-Member, more_of-Member}
use Rattle.idl_tree.specs.declared.types.UnionType.{UnionType, UnionType', Row_of-Case, end_of-Case, more_of-Case}
use Rattle.idl_tree.specs.declared.types.Member.{Member}
use Rattle.idl_tree.specs.declared.types.Case.{Case}
use Rattle.idl_tree.specs.Pieces.{Piece, keyword, mark, kept_keyword}
use Rattle.idl_tree.specs.Yields.{identifier, listed, in_order, optional, name_yield, const_expr_yield, bound_yield}

abbrev pub integer_size_yield : IntegerSize → List Piece
integer_size_yield Short = keyword (codes "short")
integer_size_yield Long = keyword (codes "long")
integer_size_yield LongLong = keyword (codes "long") ++ keyword (codes "long")

abbrev pub integer_yield : Integer → List Piece
integer_yield (Signed size) = integer_size_yield size
integer_yield (Unsigned size) = keyword (codes "unsigned") ++ integer_size_yield size

abbrev pub string_bound_yield : Bound → List Piece
string_bound_yield bound = mark (codes "<") ++ bound_yield bound ++ mark (codes ">")

abbrev pub const_type_yield : ConstType → List Piece
const_type_yield (ConstTypes.Integer i) = integer_yield i
const_type_yield ConstTypes.Char = keyword (codes "char")
const_type_yield ConstTypes.Boolean = keyword (codes "boolean")
const_type_yield ConstTypes.Octet = keyword (codes "octet")
const_type_yield (ConstTypes.String bound) = keyword (codes "string") ++ optional string_bound_yield bound
const_type_yield (ConstTypes.Name n) = name_yield n

abbrev pub param_type_yield : ParamType → List Piece
param_type_yield (ParamTypes.Plain t) = const_type_yield t
param_type_yield ParamTypes.Object = keyword (codes "Object")

abbrev pub sequence_bound_yield : Bound → List Piece
sequence_bound_yield bound = mark (codes ",") ++ bound_yield bound

abbrev pub simple_type_yield : SimpleType → List Piece
simple_type_yield (Plain t) = param_type_yield t
simple_type_yield (Sequence' p element bound) =
    keyword (codes "sequence") ++ mark (codes "<") ++ simple_type_yield element
    ++ optional sequence_bound_yield bound ++ mark (codes ">")

abbrev pub size_yield : ConstExpr → List Piece
size_yield size = mark (codes "[") ++ const_expr_yield size ++ mark (codes "]")

abbrev pub declarator_yield : Declarator → List Piece
declarator_yield d = identifier d.identifier ++ flat_map size_yield d.sizes.items

abbrev pub enum_yield : EnumType → List Piece
enum_yield e =
    keyword (codes "enum") ++ identifier e.identifier ++ mark (codes "{")
    ++ listed identifier e.enumerators.value ++ mark (codes "}")

abbrev pub switch_yield : SwitchType → List Piece
switch_yield (SwitchTypes.Integer i) = integer_yield i
switch_yield SwitchTypes.Char = keyword (codes "char")
switch_yield SwitchTypes.Boolean = keyword (codes "boolean")
switch_yield (SwitchTypes.Enum e) = enum_yield e
switch_yield (SwitchTypes.Name n) = name_yield n

abbrev pub label_yield : Label → List Piece
label_yield (Labels.Case e) = keyword (codes "case") ++ const_expr_yield e ++ mark (codes ":")
label_yield (Labels.Default word) = kept_keyword (codes "default") word ++ mark (codes ":")

abbrev mutual
  pub type_yield : TypeSpec → List Piece
  type_yield (Simple t) = simple_type_yield t
  type_yield (Struct s) = struct_yield s
  type_yield (Union u) = union_yield u
  type_yield (Enum e) = enum_yield e

  pub struct_yield : StructType → List Piece
  struct_yield (StructType' id p t declarators shape rest) =
      keyword (codes "struct") ++ identifier id ++ mark (codes "{")
      ++ (type_yield t ++ listed declarator_yield declarators ++ mark (codes ";"))
      ++ members_yield rest ++ mark (codes "}")

  pub union_yield : UnionType → List Piece
  union_yield (UnionType' id switch p labels t declarator shape rest) =
      keyword (codes "union") ++ identifier id ++ keyword (codes "switch") ++ mark (codes "(")
      ++ switch_yield switch.value ++ mark (codes ")") ++ mark (codes "{")
      ++ (in_order label_yield labels ++ type_yield t ++ declarator_yield declarator ++ mark (codes ";"))
      ++ cases_yield rest ++ mark (codes "}")

  pub members_yield : {n : _} → Row_of-Member n → List Piece
  members_yield end_of-Member = []
  members_yield (more_of-Member t declarators rest) =
      (type_yield t ++ listed declarator_yield declarators ++ mark (codes ";")) ++ members_yield rest

  pub cases_yield : {n : _} → Row_of-Case n → List Piece
  cases_yield end_of-Case = []
  cases_yield (more_of-Case labels t declarator rest) =
      (in_order label_yield labels ++ type_yield t ++ declarator_yield declarator ++ mark (codes ";"))
      ++ cases_yield rest

abbrev pub member_yield : Member → List Piece
member_yield m = type_yield m.member_type ++ listed declarator_yield m.declarators ++ mark (codes ";")

abbrev pub case_yield : Case → List Piece
case_yield c =
    in_order label_yield c.labels ++ type_yield c.member_type ++ declarator_yield c.declarator ++ mark (codes ";")

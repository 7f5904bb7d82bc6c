-- How many levels stand one inside another: of types. Structures, unions, enumerations and sequences are levels;
-- strings and names are none.
use Rattle.std.specs.Prelude.{ℕ, suc, max}
use Rattle.idl_tree.specs.declared.types.ConstType.{ConstType}
use Rattle.idl_tree.specs.declared.types.ConstType.TheVariants as ConstTypes
use Rattle.idl_tree.specs.declared.types.ParamType.{ParamType}
use Rattle.idl_tree.specs.declared.types.ParamType.TheVariants as ParamTypes
use Rattle.idl_tree.specs.declared.types.SimpleType.{SimpleType, Plain, Sequence'}
use Rattle.idl_tree.specs.declared.types.Declarator.{Declarator}
use Rattle.idl_tree.specs.declared.types.SwitchType.{SwitchType}
use Rattle.idl_tree.specs.declared.types.SwitchType.TheVariants as SwitchTypes
use Rattle.idl_tree.specs.declared.types.Label.{Label}
use Rattle.idl_tree.specs.declared.types.Label.TheVariants as Labels
use Rattle.idl_tree.specs.declared.types.TypeSpec.{TypeSpec, Simple, Struct, Union, Enum}
use Rattle.idl_tree.specs.declared.types.StructType.{StructType, StructType', Row_of-Member, end_of-Member, more_of-Member}
use Rattle.idl_tree.specs.declared.types.UnionType.{UnionType, UnionType', Row_of-Case, end_of-Case, more_of-Case}
use Rattle.idl_tree.specs.declared.types.Member.{Member}
use Rattle.idl_tree.specs.declared.types.Case.{Case}
use Rattle.idl_tree.specs.Levels.{highest, highest_listed, optional_levels, const_expr_levels, bound_levels}

abbrev pub const_type_levels : ConstType → ℕ
const_type_levels (ConstTypes.String bound) = optional_levels bound_levels bound
const_type_levels _ = 0

abbrev pub param_type_levels : ParamType → ℕ
param_type_levels (ParamTypes.Plain t) = const_type_levels t
param_type_levels ParamTypes.Object = 0

-- the bound of a sequence is inside it
abbrev pub simple_type_levels : SimpleType → ℕ
simple_type_levels (Plain t) = param_type_levels t
simple_type_levels (Sequence' p element bound) =
    suc (max (simple_type_levels element) (optional_levels bound_levels bound))

abbrev pub declarator_levels : Declarator → ℕ
declarator_levels d = highest const_expr_levels d.sizes.items

-- an enumeration is a level
abbrev pub switch_levels : SwitchType → ℕ
switch_levels (SwitchTypes.Enum e) = 1
switch_levels _ = 0

abbrev pub label_levels : Label → ℕ
label_levels (Labels.Case e) = const_expr_levels e
label_levels (Labels.Default word) = 0

abbrev mutual
  pub type_levels : TypeSpec → ℕ
  type_levels (Simple t) = simple_type_levels t
  type_levels (Struct s) = struct_levels s
  type_levels (Union u) = union_levels u
  type_levels (Enum e) = 1

  pub struct_levels : StructType → ℕ
  struct_levels (StructType' id p t declarators shape rest) =
      suc (max (max (type_levels t) (highest_listed declarator_levels declarators)) (members_levels rest))

  -- an enumeration in a switch is inside its union
  pub union_levels : UnionType → ℕ
  union_levels (UnionType' id switch p labels t declarator shape rest) =
      suc (max (switch_levels switch.value) (max
      (max (highest_listed label_levels labels) (max (type_levels t) (declarator_levels declarator)))
      (cases_levels rest)))

  pub members_levels : {n : _} → Row_of-Member n → ℕ
  members_levels end_of-Member = 0
  members_levels (more_of-Member t declarators rest) =
      max (max (type_levels t) (highest_listed declarator_levels declarators)) (members_levels rest)

  pub cases_levels : {n : _} → Row_of-Case n → ℕ
  cases_levels end_of-Case = 0
  cases_levels (more_of-Case labels t declarator rest) =
      max (max (highest_listed label_levels labels) (max (type_levels t) (declarator_levels declarator)))
      (cases_levels rest)

abbrev pub member_levels : Member → ℕ
member_levels m = max (type_levels m.member_type) (highest_listed declarator_levels m.declarators)

abbrev pub case_levels : Case → ℕ
case_levels c =
    max (highest_listed label_levels c.labels) (max (type_levels c.member_type) (declarator_levels c.declarator))

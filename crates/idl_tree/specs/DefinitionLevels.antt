-- How many levels stand one inside another: of definitions. Modules are levels; interfaces, exceptions, operations
-- and the file are none.
use Rattle.std.specs.Prelude.{ℕ, suc, max, List}
use Rattle.idl_tree.specs.declared.definitions.TypeDcl.{TypeDcl}
use Rattle.idl_tree.specs.declared.definitions.TypeDcl.TheVariants as TypeDcls
use Rattle.idl_tree.specs.declared.definitions.Const.{Const}
use Rattle.idl_tree.specs.declared.definitions.Except.{Except}
use Rattle.idl_tree.specs.declared.definitions.Declaration.{Declaration}
use Rattle.idl_tree.specs.declared.definitions.Declaration.TheVariants as Declarations
use Rattle.idl_tree.specs.declared.definitions.Attribute.{Attribute}
use Rattle.idl_tree.specs.declared.definitions.Param.{Param}
use Rattle.idl_tree.specs.declared.definitions.Operation.{Operation}
use Rattle.idl_tree.specs.declared.definitions.Export.{Export}
use Rattle.idl_tree.specs.declared.definitions.Export.TheVariants as Exports
use Rattle.idl_tree.specs.declared.definitions.Interface.{Interface}
use Rattle.idl_tree.specs.declared.definitions.Interface.TheVariants.{Ahead, Defined}
use Rattle.idl_tree.specs.declared.definitions.Definition.{Definition, Pragma, Declaration as Declared, Interface as InterfaceDcl, Module', Row_of-Definition, end_of-Definition, more_of-Definition}
use Rattle.idl_tree.specs.Levels.{highest, highest_listed, optional_levels, const_expr_levels}
use Rattle.idl_tree.specs.TypeLevels.{const_type_levels, param_type_levels, declarator_levels, type_levels, struct_levels, union_levels, member_levels}

abbrev pub type_dcl_levels : TypeDcl → ℕ
type_dcl_levels (TypeDcls.Typedef t declarators) =
    max (type_levels t) (highest_listed declarator_levels declarators)
type_dcl_levels (TypeDcls.Struct s) = struct_levels s
type_dcl_levels (TypeDcls.Union u) = union_levels u
type_dcl_levels (TypeDcls.Enum e) = 1
type_dcl_levels (TypeDcls.StructAhead id) = 0
type_dcl_levels (TypeDcls.UnionAhead id) = 0

abbrev pub const_levels : Const → ℕ
const_levels c = max (const_type_levels c.const_type) (const_expr_levels c.value)

abbrev pub except_levels : Except → ℕ
except_levels e = highest member_levels e.members.items

abbrev pub declaration_levels : Declaration → ℕ
declaration_levels (Declarations.TypeDcl t) = type_dcl_levels t
declaration_levels (Declarations.Const c) = const_levels c
declaration_levels (Declarations.Except e) = except_levels e

abbrev pub attribute_levels : Attribute → ℕ
attribute_levels a = param_type_levels a.attribute_type

abbrev pub param_levels : Param → ℕ
param_levels p = param_type_levels p.param_type

abbrev pub operation_levels : Operation → ℕ
operation_levels o =
    max (optional_levels param_type_levels o.result_type) (optional_levels (highest_listed param_levels) o.params)

abbrev pub export_levels : Export → ℕ
export_levels (Exports.Pragma p) = 0
export_levels (Exports.Declaration d) = declaration_levels d
export_levels (Exports.Attribute a) = attribute_levels a
export_levels (Exports.Operation o) = operation_levels o

abbrev pub interface_levels : Interface → ℕ
interface_levels (Ahead id) = 0
interface_levels (Defined id bases exports) = highest export_levels exports.items

abbrev mutual
  pub definition_levels : Definition → ℕ
  definition_levels (Pragma p) = 0
  definition_levels (Declared d) = declaration_levels d
  definition_levels (InterfaceDcl i) = interface_levels i
  definition_levels (Module' id shape definitions) = suc (definitions_levels definitions)

  pub definitions_levels : {n : _} → Row_of-Definition n → ℕ
  definitions_levels end_of-Definition = 0
  definitions_levels (more_of-Definition d rest) = max (definition_levels d) (definitions_levels rest)

-- of a whole specification
abbrev pub levels_of : List Definition → ℕ
levels_of definitions = highest definition_levels definitions

-- What a tree is but for where its parts lie in memory: of definitions.
use Rattle.std.specs.Prelude.{List, codes}
use Rattle.idl_tree.specs.declared.definitions.TypeDcl.{TypeDcl}
use Rattle.idl_tree.specs.declared.definitions.TypeDcl.TheVariants as TypeDcls
use Rattle.idl_tree.specs.declared.definitions.Const.{Const}
use Rattle.idl_tree.specs.declared.definitions.Except.{Except}
use Rattle.idl_tree.specs.declared.definitions.Declaration.{Declaration}
use Rattle.idl_tree.specs.declared.definitions.Declaration.TheVariants as Declarations
use Rattle.idl_tree.specs.declared.definitions.Attributes.{Attributes}
use Rattle.idl_tree.specs.declared.definitions.Attributes.TheVariants.{Silent, Readonly, Get, Set}
use Rattle.idl_tree.specs.declared.definitions.Attribute.{Attribute}
use Rattle.idl_tree.specs.declared.definitions.Direction.{Direction}
use Rattle.idl_tree.specs.declared.definitions.Direction.TheVariants.{In, Out, InOut}
use Rattle.idl_tree.specs.declared.definitions.Param.{Param}
use Rattle.idl_tree.specs.declared.definitions.Operation.{Operation}
use Rattle.idl_tree.specs.declared.definitions.Export.{Export}
use Rattle.idl_tree.specs.declared.definitions.Export.TheVariants as Exports
use Rattle.idl_tree.specs.declared.definitions.Interface.{Interface}
use Rattle.idl_tree.specs.declared.definitions.Interface.TheVariants.{Ahead, Defined}
use Rattle.idl_tree.specs.declared.definitions.Definition.{Definition, Pragma, Declaration as Declared, Interface as InterfaceDcl, Module', Row_of-Definition, end_of-Definition, more_of-Definition}
use Rattle.idl_tree.specs.Shapes.{Shape, Nothing, Kind, Both, word, leaf_shape, bool_shape, optional_shape, list_shape, listed_shape, names_shape, const_expr_shape}
use Rattle.idl_tree.specs.TypeShapes.{const_type_shape, param_type_shape, type_shape, struct_shape, union_shape, enum_shape, declarator_shape, member_shape}

abbrev pub type_dcl_shape : TypeDcl → Shape
type_dcl_shape (TypeDcls.Typedef t declarators) =
    Kind (codes "typedef") (Both (type_shape t) (listed_shape declarator_shape declarators))
type_dcl_shape (TypeDcls.Struct s) = Kind (codes "struct") (struct_shape s)
type_dcl_shape (TypeDcls.Union u) = Kind (codes "union") (union_shape u)
type_dcl_shape (TypeDcls.Enum e) = Kind (codes "enum") (enum_shape e)
type_dcl_shape (TypeDcls.StructAhead id) = Kind (codes "struct ahead") (leaf_shape id)
type_dcl_shape (TypeDcls.UnionAhead id) = Kind (codes "union ahead") (leaf_shape id)

abbrev pub const_shape : Const → Shape
const_shape c = Both (Both (const_type_shape c.const_type) (leaf_shape c.identifier)) (const_expr_shape c.value)

abbrev pub except_shape : Except → Shape
except_shape e = Both (leaf_shape e.identifier) (list_shape member_shape e.members.items)

abbrev pub declaration_shape : Declaration → Shape
declaration_shape (Declarations.TypeDcl t) = Kind (codes "type") (type_dcl_shape t)
declaration_shape (Declarations.Const c) = Kind (codes "const") (const_shape c)
declaration_shape (Declarations.Except e) = Kind (codes "exception") (except_shape e)

abbrev pub attributes_shape : Attributes → Shape
attributes_shape (Silent only identifiers) =
    Kind (codes "silent") (Both (bool_shape only) (listed_shape leaf_shape identifiers))
attributes_shape (Readonly id names) = Kind (codes "readonly") (Both (leaf_shape id) (names_shape names))
attributes_shape (Get id get set) =
    Kind (codes "get") (Both (Both (leaf_shape id) (names_shape get)) (optional_shape names_shape set))
attributes_shape (Set id set) = Kind (codes "set") (Both (leaf_shape id) (names_shape set))

abbrev pub attribute_shape : Attribute → Shape
attribute_shape a = Both (param_type_shape a.attribute_type) (attributes_shape a.declared)

abbrev pub direction_shape : Direction → Shape
direction_shape In = word (codes "in")
direction_shape Out = word (codes "out")
direction_shape InOut = word (codes "inout")

abbrev pub param_shape : Param → Shape
param_shape p = Both (Both (direction_shape p.direction) (param_type_shape p.param_type)) (leaf_shape p.identifier)

abbrev pub operation_shape : Operation → Shape
operation_shape o =
    Both (Both (Both (Both (bool_shape o.is_oneway) (optional_shape param_type_shape o.result_type))
    (leaf_shape o.identifier)) (optional_shape (listed_shape param_shape) o.params))
    (optional_shape names_shape o.raises)

abbrev pub export_shape : Export → Shape
export_shape (Exports.Pragma p) = Kind (codes "pragma") (leaf_shape p)
export_shape (Exports.Declaration d) = Kind (codes "declaration") (declaration_shape d)
export_shape (Exports.Attribute a) = Kind (codes "attribute") (attribute_shape a)
export_shape (Exports.Operation o) = Kind (codes "operation") (operation_shape o)

abbrev pub interface_shape : Interface → Shape
interface_shape (Ahead id) = Kind (codes "ahead") (leaf_shape id)
interface_shape (Defined id bases exports) =
    Kind (codes "defined") (Both (Both (leaf_shape id) (optional_shape names_shape bases))
    (list_shape export_shape exports.items))

abbrev mutual
  pub definition_shape : Definition → Shape
  definition_shape (Pragma p) = Kind (codes "pragma") (leaf_shape p)
  definition_shape (Declared d) = Kind (codes "declaration") (declaration_shape d)
  definition_shape (InterfaceDcl i) = Kind (codes "interface") (interface_shape i)
  definition_shape (Module' id shape definitions) =
      Kind (codes "module") (Both (leaf_shape id) (definitions_shape definitions))

  pub definitions_shape : {n : _} → Row_of-Definition n → Shape
  definitions_shape end_of-Definition = Nothing
  definitions_shape (more_of-Definition d rest) = Both (definition_shape d) (definitions_shape rest)

-- of a whole specification
abbrev pub spec_shape : List Definition → Shape
spec_shape definitions = list_shape definition_shape definitions

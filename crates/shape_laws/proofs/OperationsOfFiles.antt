-- Interfaces, modules and whole files of one shape are lowered to the same.
use Rattle.std.proofs.Common.{◌≡◌, ℕ, ◌+◌, List, length, Option, Some, None, Ok, slice_get, refl}
use Rattle.idl_tree.specs.declared.definitions.Declaration.{Declaration}
use Rattle.idl_tree.specs.declared.definitions.Export.{Export}
use Rattle.idl_tree.specs.declared.definitions.Export.TheVariants as Exports
use Rattle.idl_tree.specs.declared.definitions.Interface.{Interface}
use Rattle.idl_tree.specs.declared.definitions.Interface.TheVariants.{Ahead, Defined as Body}
use Rattle.idl_tree.specs.declared.definitions.Definition.{Definition, Pragma, Declaration as Declared, Interface as InterfaceDcl, Module', Row_of-Definition, end_of-Definition, more_of-Definition}
use Rattle.name_table.specs.Entry.{Entry, bases_in}
use Rattle.scoped_names.specs.Reading.{◌>>◌}
use Rattle.lowered_operations.specs.Operations.{Defined, declared, undefined_yet, with_types}
use Rattle.lowered_operations.specs.Interfaces.{export, as_reference, offering, with_interface, identifier_of, exports_of, interface_as, interface}
use Rattle.lowered_operations.specs.Definitions.{definition, definitions_after, defined_by}
use Rattle.idl_tree.specs.Shapes.{leaf_shape, optional_shape, list_shape}
use Rattle.idl_tree.specs.DefinitionShapes.{declaration_shape, export_shape, interface_shape, definition_shape, definitions_shape, spec_shape}
use Rattle.shape_laws.proofs.Apart.{apart}
use Rattle.shape_laws.proofs.LoweredTypes.{declaration_same}
use Rattle.shape_laws.proofs.Operations.{operation_same, attribute_same}
use Rattle.shape_laws.proofs.PartLists.{each_same}
use Rattle.shape_laws.proofs.TypeParts.{entry_same}

-- ---- interfaces

declared_same : (es : List Entry) (scope : ℕ) (d : Defined) (a b : Declaration)
    → declaration_shape a ≡ declaration_shape b
    → declared es scope d a ≡ declared es scope d b
declared_same es scope d a b h = λ i. declaration_same es d.types scope a b h i >> λ w. Ok (with_types d w)

export_same : (es : List Entry) (scope : ℕ) (d : Defined) (a b : Export) → export_shape a ≡ export_shape b
    → export es scope d a ≡ export es scope d b
export_same es scope d (Exports.Pragma a) (Exports.Pragma b) h = refl
export_same es scope d (Exports.Declaration a) (Exports.Declaration b) h = declared_same es scope d a b cc
export_same es scope d (Exports.Attribute a) (Exports.Attribute b) h = attribute_same es scope d a b cc
export_same es scope d (Exports.Operation a) (Exports.Operation b) h = operation_same es scope d a b cc
export_same es scope d a b h = apart h refl

identifier_shape : (a b : Interface) → interface_shape a ≡ interface_shape b
    → leaf_shape (identifier_of a) ≡ leaf_shape (identifier_of b)
identifier_shape (Ahead l) (Ahead m) h = cc
identifier_shape (Body l bases exports) (Body m others more) h = cc
identifier_shape a b h = apart h refl

exports_shape : (a b : Interface) → interface_shape a ≡ interface_shape b
    → optional_shape (list_shape export_shape) (exports_of a) ≡ optional_shape (list_shape export_shape) (exports_of b)
exports_shape (Ahead l) (Ahead m) h = refl
exports_shape (Body l bases exports) (Body m others more) h = cc
exports_shape a b h = apart h refl

interface_as_same : (es : List Entry) (d : Defined) (e : ℕ) (a b : Option (List Export))
    → optional_shape (list_shape export_shape) a ≡ optional_shape (list_shape export_shape) b
    → interface_as es d e a ≡ interface_as es d e b
interface_as_same es d e None None h = refl
interface_as_same es d e (Some xs) (Some ys) h =
    let exports : list_shape export_shape xs ≡ list_shape export_shape ys = cc in
    λ i. as_reference d e >> λ r. each_same export_shape (export es (e + 1)) (export es (e + 1))
    (export_same es (e + 1)) r xs ys exports i >> λ b.
    with_interface b e (offering b (length d.operations) (bases_in (slice_get es e)))
interface_as_same es d e a b h = absurd cc

interface_same : (es : List Entry) (scope : ℕ) (d : Defined) (a b : Interface) → interface_shape a ≡ interface_shape b
    → interface es scope d a ≡ interface es scope d b
interface_same es scope d a b h =
    λ i. entry_same es scope (identifier_of a) (identifier_of b) (identifier_shape a b h) i >> λ e.
    interface_as_same es d e (exports_of a) (exports_of b) (exports_shape a b h) i

-- ---- modules and files

mutual
  definition_same : (es : List Entry) (scope : ℕ) (d : Defined) (a b : Definition)
      → definition_shape a ≡ definition_shape b
      → definition es scope d a ≡ definition es scope d b
  definition_same es scope d (Pragma a) (Pragma b) h = refl
  definition_same es scope d (Declared a) (Declared b) h = declared_same es scope d a b cc
  definition_same es scope d (InterfaceDcl a) (InterfaceDcl b) h = interface_same es scope d a b cc
  definition_same es scope d (Module' l form a) (Module' m form' b) h =
      let names : leaf_shape l ≡ leaf_shape m = cc in
      let bodies : definitions_shape a ≡ definitions_shape b = cc in
      λ i. entry_same es scope l m names i >> λ e. definitions_same es (e + 1) d a b bodies i
  definition_same es scope d a b h = apart h refl

  definitions_same : {n k : _} (es : List Entry) (scope : ℕ) (d : Defined) (a : Row_of-Definition n)
      (b : Row_of-Definition k)
      → definitions_shape a ≡ definitions_shape b → definitions_after es scope d a ≡ definitions_after es scope d b
  definitions_same es scope d end_of-Definition end_of-Definition h = refl
  definitions_same es scope d (more_of-Definition x rest) (more_of-Definition y more) h =
      let first : definition_shape x ≡ definition_shape y = cc in
      let rests : definitions_shape rest ≡ definitions_shape more = cc in
      λ i. definition_same es scope d x y first i >> λ next. definitions_same es scope next rest more rests i
  definitions_same es scope d a b h = absurd cc

pub defined_same : (entries : List Entry) (definitions others : List Definition)
    → spec_shape definitions ≡ spec_shape others
    → defined_by entries definitions ≡ defined_by entries others
defined_same entries definitions others h =
    each_same definition_shape (definition entries 0) (definition entries 0) (definition_same entries 0)
    (undefined_yet (length entries)) definitions others h

-- What specifications introduce, worked out by hand, whatever the identifiers and the entries are.
use Rattle.std.proofs.Common.{◌≡◌, List, [], ◌∷◌, ◌++◌, Some, None, Box, Vec, Global, false, ap, ap₂}
use Rattle.std.specs.Prelude.{map}
use Rattle.idl_tree.specs.declared.names.Leaf.{Leaf}
use Rattle.idl_tree.specs.declared.types.ConstType.TheVariants.{Char}
use Rattle.idl_tree.specs.declared.types.ParamType.TheVariants.{Plain}
use Rattle.idl_tree.specs.declared.definitions.TypeDcl.TheVariants.{Enum}
use Rattle.idl_tree.specs.declared.definitions.Declaration.TheVariants.{TypeDcl}
use Rattle.idl_tree.specs.declared.definitions.Direction.TheVariants.{In}
use Rattle.idl_tree.specs.declared.definitions.Param.{Param}
use Rattle.idl_tree.specs.declared.definitions.Export.{Export}
use Rattle.idl_tree.specs.declared.definitions.Export.TheVariants as Exports
use Rattle.idl_tree.specs.declared.definitions.Interface.TheVariants.{Defined}
use Rattle.idl_tree.specs.declared.names.Listed.{Listed}
use Rattle.idl_tree.specs.declared.definitions.Definition.{Declaration, Interface}
use Rattle.idl_tree.specs.declared.kinds.EntryKind.TheVariants as Kinds
use Rattle.name_table.specs.Entry.{Entry}
use Rattle.name_table.specs.Entries.{scope_of}
use Rattle.scoped_names.specs.Introductions.{Stands, Has, Body, introduced}
use Rattle.name_steps.specs.Steps.{DeclaresEnumerator, steps_of}

-- enum e {a, b};
enumeration : (es : List Entry) (e a b : Leaf) (all : Box (Listed Leaf) Global) → all.value.first ≡ a
    → all.value.rest.items ≡ b ∷ []
    → introduced es 0 (steps_of (Declaration (TypeDcl (Enum (record { identifier = e; enumerators = all }))) ∷ []))
    ≡ Stands 0 e Kinds.Enum ∷ Stands 0 a Kinds.Enumerator ∷ Stands 0 b Kinds.Enumerator ∷ []
enumeration es e a b all first rest =
    ap₂ (λ x xs. Stands 0 e Kinds.Enum ∷ Stands 0 x Kinds.Enumerator
    ∷ introduced es 0 (map DeclaresEnumerator xs ++ [])) first rest

abbrev operation : Leaf → Leaf → Vec Param Global → Export
operation f x more = Exports.Operation (record {
  is_oneway = false;
  result_type = None;
  identifier = f;
  params = Some (record { first = record { direction = In; param_type = Plain Char; identifier = x }; rest = more });
  raises = None;
})

-- interface i {void f(in char x);};
parameter : (es : List Entry) (i f x : Leaf) (more : Vec Param Global) (exports : Vec Export Global) → more.items ≡ []
    → exports.items ≡ operation f x more ∷ []
    → introduced es 0 (steps_of (Interface (Defined i None exports) ∷ []))
    ≡ Stands 0 i Kinds.Interface ∷ Body (scope_of es 0 i) ∷ Stands (scope_of es 0 i) f Kinds.Operation
    ∷ Has (scope_of es (scope_of es 0 i) f) x ∷ []
parameter es i f x more exports alone is = rw is (rw alone)

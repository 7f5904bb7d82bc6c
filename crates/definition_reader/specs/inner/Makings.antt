-- What is made of parts that were read.
use Rattle.std.specs.Prelude.{◌≡◌, ◌++◌, ◌∷◌, [], suc, List, codes}
use Rattle.std.specs.List.{flat_map}
use Rattle.idl_tree.specs.declared.names.Leaf.{Leaf}
use Rattle.idl_tree.specs.declared.definitions.Definition.{Definition}
use Rattle.idl_tree.specs.Pieces.{Piece, keyword, mark}
use Rattle.idl_tree.specs.Yields.{identifier}
use Rattle.idl_tree.specs.Levels.{highest}
use Rattle.idl_tree.specs.DefinitionYields.{definition_yield}
use Rattle.idl_tree.specs.DefinitionLevels.{definition_levels}

-- a module up to its closing brace
abbrev pub module_front : Leaf → List Definition → List Piece
module_front name inside =
    keyword (codes "module") ++ identifier name ++ mark (codes "{") ++ flat_map definition_yield inside
    ++ mark (codes "}")

-- a module of these definitions stands at the end of a list
pub record HasModule (name : Leaf) (inside before after : List Definition) : Type 0 where
  pub whole : Definition
  pub is : after ≡ before ++ whole ∷ []
  pub spells : definition_yield whole ≡ module_front name inside ++ mark (codes ";")
  pub levels : definition_levels whole ≡ suc (highest definition_levels inside)

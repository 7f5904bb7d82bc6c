-- What a module spells and its levels, by the list of its `Vec`.
use Rattle.std.proofs.Common.{◌≡◌, ◌++◌, suc, max, List, [], Vec, Global, refl}
use Rattle.std.specs.Prelude.{codes}
use Rattle.std.specs.List.{flat_map}
use Rattle.idl_tree.specs.declared.names.Leaf.{Leaf}
use Rattle.idl_tree.specs.declared.definitions.Definition.{Definition, Module}
use Rattle.idl_tree.specs.Pieces.{Piece, keyword, mark}
use Rattle.idl_tree.specs.Yields.{identifier}
use Rattle.idl_tree.specs.DefinitionYields.{definition_yield, definitions_yield}
use Rattle.idl_tree.specs.Levels.{highest}
use Rattle.idl_tree.specs.DefinitionLevels.{definition_levels, definitions_levels}
use Rattle.idl_tree.proofs.Rows.{module_walk}

abbrev module_of : Leaf → Vec Definition Global → Definition
module_of name definitions = Module (record { identifier = name; definitions = definitions })

abbrev module_pieces : Leaf → List Piece → List Piece
module_pieces name inner =
    keyword (codes "module") ++ identifier name ++ mark (codes "{") ++ inner ++ mark (codes "}") ++ mark (codes ";")

pub module_yields : (name : Leaf) (definitions : Vec Definition Global)
    → definition_yield (module_of name definitions) ≡ module_pieces name (flat_map definition_yield definitions.items)
module_yields name definitions =
    module_walk definition_yield (λ n row. definitions_yield row) module_pieces []
    (λ d others. definition_yield d ++ others) (flat_map definition_yield)
    (λ id shape row. refl) refl (λ n d row. refl) refl (λ d ds. refl)
    (record { identifier = name; definitions = definitions })

pub module_nests : (name : Leaf) (definitions : Vec Definition Global)
    → definition_levels (module_of name definitions) ≡ suc (highest definition_levels definitions.items)
module_nests name definitions =
    module_walk definition_levels (λ n row. definitions_levels row) (λ id most. suc most) 0
    (λ d most. max (definition_levels d) most) (highest definition_levels)
    (λ id shape row. refl) refl (λ n d row. refl) refl (λ d ds. refl)
    (record { identifier = name; definitions = definitions })

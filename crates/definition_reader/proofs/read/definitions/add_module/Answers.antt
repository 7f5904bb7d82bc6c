use Rattle.std.proofs.Common.{◌≡◌, ◌++◌, ◌∷◌, [], suc, List}
use Rattle.std.specs.Prelude.{Result, Ok, Err, IfOk, codes}
use Rattle.idl_tree.specs.declared.names.Leaf.{Leaf}
use Rattle.idl_tree.specs.declared.definitions.Definition.{Definition}
use Rattle.idl_tree.specs.Pieces.{mark}
use Rattle.idl_tree.specs.Levels.{highest}
use Rattle.idl_tree.specs.DefinitionYields.{definition_yield}
use Rattle.idl_tree.specs.DefinitionLevels.{definition_levels}
use Rattle.idl_tree.proofs.Modules.{module_yields, module_nests}
use Rattle.definition_reader.specs.inner.Makings.{module_front, HasModule}
use Rattle.definition_reader.proofs.read.definitions.add_module.Goals as goal

module_added : {V E : Type 0} (name : Leaf) (inside before after : List Definition) (d : Definition) (r : Result V E)
    → definition_yield d ≡ module_front name inside ++ mark (codes ";")
    → definition_levels d ≡ suc (highest definition_levels inside)
    → IfOk r (λ _. after ≡ before ++ d ∷ []) → IfOk r (λ _. HasModule name inside before after)
module_added name inside before after d (Ok v) spelled most is =
    record { whole = d; is = is; spells = spelled; levels = most }
module_added name inside before after d (Err e) spelled most is = tt

pub returns-clause-spells : goal.returns-clause-spells
returns-clause-spells c =
    module_added _ _ _ _ _ c.add_definition.result (module_yields c.args.name c.args.inside)
    (module_nests c.args.name c.args.inside) c.add_definition.ensures.spells

-- How much a module spells.
use Rattle.std.proofs.Common.{◌<◌, ◌++◌, codes, length, length-append, ap, arith}
use Rattle.std.specs.List.{flat_map}
use Rattle.idl_tree.specs.declared.definitions.Definition.{Module}
use Rattle.idl_tree.specs.declared.definitions.Module.{Module as ModuleRecord}
use Rattle.idl_tree.specs.Pieces.{keyword, mark, piece}
use Rattle.idl_tree.specs.Yields.{identifier}
use Rattle.idl_tree.specs.DefinitionYields.{definition_yield}
use Rattle.idl_tree.proofs.Modules.{module_yields}

-- what a module spells between its braces
pub module_length : (m : ModuleRecord)
    → length (flat_map definition_yield m.definitions.items) < length (definition_yield (Module m))
unfolding piece
module_length m =
    let inner = flat_map definition_yield m.definitions.items in
    let named = keyword (codes "module") ++ identifier m.identifier in
    let front = named ++ mark (codes "{") in
    omega (
      arith,
      ap length (module_yields m.identifier m.definitions),
      length-append (front ++ inner ++ mark (codes "}")) (mark (codes ";")),
      length-append (front ++ inner) (mark (codes "}")),
      length-append front inner,
      length-append named (mark (codes "{")),
    )

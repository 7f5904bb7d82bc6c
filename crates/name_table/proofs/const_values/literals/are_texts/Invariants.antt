use Rattle.std.proofs.Common.{◌≡◌}
use Rattle.idl_tree.specs.Lists.{parts}
use Rattle.idl_tree.specs.PartsLeft.{parts_left}
use Rattle.name_table.specs.Worth.{are_texts}
use Rattle.name_table.proofs.const_values.literals.are_texts.Given as goal

abbrev pub invariant-loop-leaf : goal.invariant-loop-leaf
invariant-loop-leaf l = are_texts (parts_left l.leaf-iterator) ≡ are_texts (parts l.literals)

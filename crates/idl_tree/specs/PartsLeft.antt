-- What is left of a list that is walked over.
use Rattle.std.specs.Prelude.{List}
use Rattle.idl_tree.specs.declared.lists.Parts.{Parts}
use Rattle.idl_tree.specs.Lists.{first_and}

abbrev pub parts_left : {T : Type 0} → Parts T → List T
parts_left p = first_and p.first p.rest.now

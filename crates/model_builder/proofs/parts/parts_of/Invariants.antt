use Rattle.std.proofs.Common.{◌≡◌, ◌++◌, All}
use Rattle.std.specs.Vec.Iter.{into_iter_items}
use Rattle.type_model.specs.PartNamesNames.{AreApart}
use Rattle.model_builder.proofs.parts.parts_of.Given as goal

-- the names so far, and those that are left
abbrev pub invariant-loop-own : goal.invariant-loop-own
invariant-loop-own l = record {
  told : l.nodes.items ++ into_iter_items l.own-iterator ≡ l.fn.names.items;
  apart : All AreApart (into_iter_items l.own-iterator);
}

use Rattle.std.proofs.Common.{◌≡◌, ◌++◌, length, take}
use Rattle.std.specs.List.{AllByRecursion, flat_map}
use Rattle.idl_lexer.specs.declared.token.Kind.TheVariants.{TextLit}
use Rattle.idl_lexer.specs.Readings.{text_octets}
use Rattle.idl_tree.specs.Forms.{IsLeafOf}
use Rattle.idl_tree.specs.Lists.{parts}
use Rattle.idl_tree.specs.PartsLeft.{parts_left}
use Rattle.idl_tree.proofs.readings.Listed+Leaf.push_octets.Given as goal

-- what was added and what is left are the whole
abbrev pub invariant-loop-text : goal.invariant-loop-text
invariant-loop-text l = record {
  may : (goal.iterator-loop-text).can_next l.text-iterator;
  ends : (goal.iterator-loop-text).is_finite l.text-iterator;
  forms : AllByRecursion (IsLeafOf TextLit) (parts_left l.text-iterator);
  added : l.octets.items ++ flat_map (λ x. text_octets x.token.text.now) (parts_left l.text-iterator)
      ≡ l.fn.octets.items ++ flat_map (λ x. text_octets x.token.text.now) (parts l.fn.self);
  kept : take (length l.fn.octets.items) l.octets.items ≡ l.fn.octets.items;
}

use Rattle.std.proofs.Common.{◌≡◌, ◌++◌, length, take}
use Rattle.idl_lexer.specs.Literals.{ClosedCharacters}
use Rattle.idl_lexer.proofs.values.push_characters.Given as goal

abbrev pub invariant-loop-rest : goal.invariant-loop-rest
invariant-loop-rest l = record {
  closed : ∥ ClosedCharacters l.rest ∥₁;
  said : (text : ClosedCharacters l.fn.octets) → (left : ClosedCharacters l.rest)
      × (l.out.items ++ left.octets ≡ l.fn.out.items ++ text.octets);
  kept : take (length l.fn.out.items) l.out.items ≡ l.fn.out.items;
}

abbrev pub decreases-loop-rest : goal.decreases-loop-rest
decreases-loop-rest l = length l.rest

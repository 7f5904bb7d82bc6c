use Rattle.std.proofs.Common.{ℕ, ◌-◌, ◌≤◌, List, drop, length}
use Rattle.idl_lexer.specs.Literals.{AreCharacters, ClosedCharacters, IsTextLiteral}
use Rattle.idl_lexer.proofs.literal.text_literal.Given as goal

abbrev pub invariant-loop-at : goal.invariant-loop-at
invariant-loop-at l = record {
  read : (octets : List ℕ)
      × AreCharacters 34 (drop 1 l.octets) (l.at - 1) octets;
  low : 1 ≤ l.at;
  within : l.at ≤ length l.octets;
  left :
      (n : ℕ) → IsTextLiteral l.octets n → ClosedCharacters (drop l.at l.octets);
}

abbrev pub decreases-loop-at : goal.decreases-loop-at
decreases-loop-at l = length l.octets - l.at

use Rattle.std.proofs.Common.{◌≡◌}
use Rattle.value_text.proofs.words.octets_of_text.Given as goal

abbrev pub invariant-loop-character : goal.invariant-loop-character
invariant-loop-character l = l.octets.items ≡ l.yielded

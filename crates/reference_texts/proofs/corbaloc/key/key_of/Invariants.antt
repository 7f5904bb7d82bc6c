use Rattle.std.proofs.Common.{◌≡◌, ◌++◌, length, option_map}
use Rattle.reference_texts.specs.Places.{key_of as key_in}
use Rattle.reference_texts.proofs.corbaloc.key.key_of.Given as goal

abbrev pub invariant-loop-left : goal.invariant-loop-left
invariant-loop-left l = key_in l.text ≡ option_map (λ more. l.key.items ++ more) (key_in l.left)

abbrev pub decreases-loop-left : goal.decreases-loop-left
decreases-loop-left l = length l.left

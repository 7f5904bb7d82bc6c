use Rattle.std.proofs.Common.{◌≡◌, ◌++◌, drop}
use Rattle.model_builder.proofs.signatures.numbers_of.Given as goal

-- the numbers so far, and the places that are left
abbrev pub invariant-loop-place : goal.invariant-loop-place
invariant-loop-place l = l.numbers.items ++ drop l.place-index l.places ≡ l.places

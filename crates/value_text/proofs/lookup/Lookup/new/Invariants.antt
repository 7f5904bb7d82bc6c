use Rattle.std.proofs.Common.{ℕ, ◌<◌}
use Rattle.type_model.specs.PartNamesNames.{AreApart, names_at}
use Rattle.value_text.proofs.lookup.Lookup.new.Given as goal

abbrev pub invariant-loop-number : goal.invariant-loop-number
invariant-loop-number l = (number : ℕ) → number < l.number → AreApart (names_at l.names number)

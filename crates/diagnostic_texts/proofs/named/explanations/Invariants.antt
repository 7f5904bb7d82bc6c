use Rattle.std.specs.String.{string_bytes}
use Rattle.diagnostic_texts.specs.Named.{AreTexts}
use Rattle.diagnostic_texts.proofs.named.explanations.Given as goal

abbrev pub invariant-loop-number : goal.invariant-loop-number
invariant-loop-number l = AreTexts l.word l.number (string_bytes l.texts)

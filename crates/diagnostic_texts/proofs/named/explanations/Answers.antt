use Rattle.diagnostic_texts.specs.Named.{AreTexts}
use Rattle.diagnostic_texts.proofs.named.explanations.Goals as goal

pub loop-number-init : goal.loop-number-init
loop-number-init c = rw c.new-texts.ensures.bytes AreTexts.none

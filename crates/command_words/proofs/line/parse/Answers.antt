use Rattle.std.proofs.Common.{subst, sym}
use Rattle.command_words.specs.Words.{AreReadAs, AreRefused, HaveExplain}
use Rattle.command_words.proofs.line.parse.Goals as goal

pub returns-clause-asked : goal.returns-clause-asked
returns-clause-asked c asked asks =
    c.read.ensures.asked asked (subst (λ words. AreReadAs words asked) (sym c.in_ok-said.ensures) asks)

pub returns-clause-explains : goal.returns-clause-explains
returns-clause-explains c flag asks =
    c.read.ensures.explains flag (subst (λ words. HaveExplain words flag) (sym c.in_ok-said.ensures) asks)

pub returns-clause-mistaken : goal.returns-clause-mistaken
returns-clause-mistaken c mistaken = c.read.ensures.mistaken (subst AreRefused (sym c.in_ok-said.ensures) mistaken)

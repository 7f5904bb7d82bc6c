use Rattle.std.proofs.Common.{◌∙◌, ap, codes, List, ℕ, Option, Some}
use Rattle.clap.specs.Words.{found_of}
use Rattle.clap.proofs.WalkLemmas.{first_value-rows}
use Rattle.command_words.specs.Ask.{Explanation}
use Rattle.command_words.proofs.matches.explain.Goals as goal

pub returns : goal.returns
returns c word tells =
    ap Explanation
    (c.get_str.ensures ∙ first_value-rows (found_of c.args.words.now) (codes "REFUSAL") ∙ tells)

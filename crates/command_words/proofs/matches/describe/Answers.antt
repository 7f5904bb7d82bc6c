use Rattle.std.proofs.Common.{◌∙◌, ap, sym, codes, List, ℕ, Some}
use Rattle.clap.specs.Words.{found_of}
use Rattle.clap.proofs.WalkLemmas.{first_value-rows}
use Rattle.command_words.specs.Ask.{Description}
use Rattle.command_words.proofs.Inputs.{not_none}
use Rattle.command_words.proofs.FoundRequests.{same_some}
use Rattle.command_words.proofs.matches.describe.Goals as goal

pub returns-in_err-get_str : goal.returns-in_err-get_str
returns-in_err-get_str c reference tells =
    let there = first_value-rows (found_of c.args.words.now) (codes "IOR") ∙ tells in
    absurd (not_none _ reference there (sym c.in_err-get_str.ensures))

pub returns : goal.returns
returns c reference tells =
    let there = first_value-rows (found_of c.args.words.now) (codes "IOR") ∙ tells in
    ap Description (same_some _ _ _ (sym c.in_ok-get_str.ensures) there)

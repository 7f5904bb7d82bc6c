use Rattle.std.proofs.Common.{ap, codes}
use Rattle.clap.specs.Words.{found_of}
use Rattle.command_words.specs.Ask.{Check}
use Rattle.command_words.proofs.Calls.{found_is, not_lost}
use Rattle.command_words.proofs.matches.check.Goals as goal

pub returns-in_err-table : goal.returns-in_err-table
returns-in_err-table c table tells =
    absurd (not_lost (found_of c.args.words.now) (codes "T") table c.in_err-table.ensures tells)

pub returns : goal.returns
returns c table tells =
    ap Check (found_is (found_of c.args.words.now) (codes "T") _ table c.in_ok-table.ensures tells)

use Rattle.std.proofs.Common.{Some, None}
use Rattle.clap.specs.Words.{found_of}
use Rattle.command_words.proofs.References.{asked}
use Rattle.command_words.proofs.matches.reference.Goals as goal

pub returns-in_err-asked : goal.returns-in_err-asked
returns-in_err-asked c ask tells =
    let e = c.in_err-asked.ensures in
    absurd (asked (found_of c.args.words.now) ask tells None e.whole e.table e.host e.port e.object)

pub returns : goal.returns
returns c ask tells =
    let e = c.in_ok-asked.ensures in
    asked (found_of c.args.words.now) ask tells (Some c.in_ok-asked.asked) e.whole e.table e.host e.port e.object

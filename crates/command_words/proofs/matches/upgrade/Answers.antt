use Rattle.std.proofs.Common.{codes, refl}
use Rattle.clap.specs.Words.{found_of}
use Rattle.command_words.proofs.Calls.{found_is, not_lost}
use Rattle.command_words.proofs.matches.upgrade.Goals as goal

pub returns-in_err-get_str : goal.returns-in_err-get_str
returns-in_err-get_str c table output tells =
    absurd (not_lost (found_of c.args.words.now) (codes "T") table c.in_err-get_str.ensures tells.read_is)

pub returns-in_err-get_str-2 : goal.returns-in_err-get_str-2
returns-in_err-get_str-2 c table output tells =
    absurd (not_lost (found_of c.args.words.now) (codes "o") output c.in_err-get_str-2.ensures tells.written_is)

pub returns : goal.returns
returns c table output tells =
    let found = found_of c.args.words.now in
    let read = found_is found (codes "T") _ table c.in_ok-get_str.ensures tells.read_is in
    let written = found_is found (codes "o") _ output c.in_ok-get_str-2.ensures tells.written_is in
    rw (read, written) refl

use Rattle.std.proofs.Common.{codes, refl}
use Rattle.clap.specs.Words.{found_of}
use Rattle.command_words.proofs.Calls.{flag_is, found_is, not_lost}
use Rattle.command_words.proofs.matches.show.Goals as goal

pub returns-in_err-get_str : goal.returns-in_err-get_str
returns-in_err-get_str c table types tells =
    absurd (not_lost (found_of c.args.words.now) (codes "T") table c.in_err-get_str.ensures tells.table_is)

pub returns : goal.returns
returns c table types tells =
    let found = found_of c.args.words.now in
    let name = found_is found (codes "T") _ table c.in_ok-get_str.ensures tells.table_is in
    let flag = flag_is found (codes "types") types c.get_flag-types.result tells.types_is
    c.get_flag-types.ensures.value c.get_flag-types.ensures.other in
    rw (name, flag) refl

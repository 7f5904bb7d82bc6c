use Rattle.std.proofs.Common.{◌∙◌, codes, refl}
use Rattle.clap.specs.Words.{found_of}
use Rattle.clap.proofs.WalkLemmas.{first_value-rows}
use Rattle.command_words.proofs.Calls.{flag_is, found_is, not_lost}
use Rattle.command_words.proofs.matches.dump.Goals as goal

pub returns-in_err-get_str : goal.returns-in_err-get_str
returns-in_err-get_str c ask tells =
    absurd (not_lost (found_of c.args.words.now) (codes "T") ask.table c.in_err-get_str.ensures tells.table)

pub returns : goal.returns
returns c ask tells =
    let found = found_of c.args.words.now in
    let table = found_is found (codes "T") _ ask.table c.in_ok-get_str.ensures tells.table in
    let file = c.get_str-2.ensures ∙ first_value-rows found (codes "FILE") ∙ tells.file in
    let back = c.get_str-3.ensures ∙ first_value-rows found (codes "BACK") ∙ tells.back in
    let follow = flag_is found (codes "follow") ask.follow c.get_flag.result tells.follow c.get_flag.ensures.value
    c.get_flag.ensures.other in
    rw (table, file, back, follow) refl

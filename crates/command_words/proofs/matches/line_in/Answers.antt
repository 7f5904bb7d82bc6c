use Rattle.std.proofs.Common.{ap, ◌≡◌, ◌∙◌, List, Some, option_map}
use Rattle.clap.specs.Words.{Row, Text, found_of, rows_of}
use Rattle.command_words.proofs.Calls.{explain_is}
use Rattle.command_words.proofs.matches.line_in.Goals as goal

pub returns-in-Some-said_in-clause-explains : goal.returns-in-Some-said_in-clause-explains
returns-in-Some-said_in-clause-explains c name rows flag command tells =
    let found = found_of c.in-Some.words.now in
    let rows_are : rows_of found ≡ rows =
    let both : Some (rows_of found) ≡ Some rows = c.in-Some.ensures.rows
    ∙ ap (option_map (λ (p : Text × List Row). p.1)) command in cc in
    explain_is found flag c.get_flag.result (rw rows_are tells) c.get_flag.ensures.none c.get_flag.ensures.value
    c.get_flag.ensures.other

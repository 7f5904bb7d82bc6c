use Rattle.std.proofs.Common.{◌∙◌, sym, codes}
use Rattle.clap.specs.Words.{found_of, rows_of}
use Rattle.clap.proofs.WalkLemmas.{first_value-rows, one_text-rows}
use Rattle.command_words.proofs.Inputs.{by_flag, by_octets, not_none}
use Rattle.command_words.proofs.FoundRequests.{same_some}
use Rattle.command_words.proofs.matches.to_decode.Goals as goal

pub returns-in_err-hex : goal.returns-in_err-hex
returns-in_err-hex c ask way_is tells =
    let found = found_of c.args.words.now in
    let there = first_value-rows found (codes "HEX")
    ∙ by_octets (rows_of found) ask.value.way ask.form ask.value.input way_is tells.input in
    absurd (not_none _ ask.value.input there (sym c.in_err-hex.ensures))

pub returns-then-get_flag : goal.returns-then-get_flag
returns-then-get_flag c ask way_is tells =
    let found = found_of c.args.words.now in
    let there = first_value-rows found (codes "HEX")
    ∙ by_octets (rows_of found) ask.value.way ask.form ask.value.input way_is tells.input in
    let flag = by_flag (rows_of found) ask.value.way ask.form ask.value.input c.get_flag.result way_is tells.input
    (λ on. c.get_flag.ensures.value (one_text-rows found (codes "text") ∙ on))
    (λ off. c.get_flag.ensures.other (one_text-rows found (codes "text") ∙ off)) in
    c.value.ensures ask (sym way_is) (flag.0 c.if-get_flag.true) (same_some _ _ _ (sym c.in_ok-hex.ensures) there)
    tells.place

pub returns-else-get_flag : goal.returns-else-get_flag
returns-else-get_flag c ask way_is tells =
    let found = found_of c.args.words.now in
    let there = first_value-rows found (codes "HEX")
    ∙ by_octets (rows_of found) ask.value.way ask.form ask.value.input way_is tells.input in
    let flag = by_flag (rows_of found) ask.value.way ask.form ask.value.input c.get_flag.result way_is tells.input
    (λ on. c.get_flag.ensures.value (one_text-rows found (codes "text") ∙ on))
    (λ off. c.get_flag.ensures.other (one_text-rows found (codes "text") ∙ off)) in
    c.value-else-get_flag.ensures ask (sym way_is) (flag.1 c.if-get_flag.false)
    (same_some _ _ _ (sym c.in_ok-hex.ensures) there) tells.place

use Rattle.std.proofs.Common.{◌∙◌, sym, ap, codes, is_some}
use Rattle.clap.specs.Words.{found_of, rows_of}
use Rattle.clap.proofs.WalkLemmas.{first_value-rows}
use Rattle.command_words.proofs.Inputs.{by_tape, by_words, is_clear}
use Rattle.command_words.proofs.matches.to_encode.Goals as goal

pub returns-in-Some-None-clause-asked : goal.returns-in-Some-None-clause-asked
returns-in-Some-None-clause-asked c ask way_is tells =
    let found = found_of c.args.words.now in
    let same = by_tape (rows_of found) ask.value.way ask.form ask.value.input c.in-Some-None.hex.now way_is tells.input
    (sym (first_value-rows found (codes "HEX")) ∙ sym c.in-Some-None.ensures)
    (sym (first_value-rows found (codes "text")) ∙ sym c.in-Some-None.ensures') in
    c.value.ensures ask (sym way_is) same.0 same.1 tells.place

pub returns-in-Some-None-clause-unclear : goal.returns-in-Some-None-clause-unclear
returns-in-Some-None-clause-unclear c same =
    let found = found_of c.args.words.now in
    let hex = sym (first_value-rows found (codes "HEX")) ∙ sym c.in-Some-None.ensures in
    let text = sym (first_value-rows found (codes "text")) ∙ sym c.in-Some-None.ensures' in
    let bad = sym (ap is_some hex) ∙ same ∙ ap is_some text in absurd cc

pub returns-in-None-Some-clause-asked : goal.returns-in-None-Some-clause-asked
returns-in-None-Some-clause-asked c ask way_is tells =
    let found = found_of c.args.words.now in
    let same = by_words (rows_of found) ask.value.way ask.form ask.value.input c.in-None-Some.text.now way_is
    tells.input
    (sym (first_value-rows found (codes "HEX")) ∙ sym c.in-None-Some.ensures)
    (sym (first_value-rows found (codes "text")) ∙ sym c.in-None-Some.ensures') in
    c.value-in-None-Some.ensures ask (sym way_is) same.0 same.1 tells.place

pub returns-in-None-Some-clause-unclear : goal.returns-in-None-Some-clause-unclear
returns-in-None-Some-clause-unclear c same =
    let found = found_of c.args.words.now in
    let hex = sym (first_value-rows found (codes "HEX")) ∙ sym c.in-None-Some.ensures in
    let text = sym (first_value-rows found (codes "text")) ∙ sym c.in-None-Some.ensures' in
    let bad = sym (ap is_some hex) ∙ same ∙ ap is_some text in absurd cc

pub returns-in-Some-Some-clause-asked : goal.returns-in-Some-Some-clause-asked
returns-in-Some-Some-clause-asked c ask way_is tells =
    let found = found_of c.args.words.now in
    let hex = sym (first_value-rows found (codes "HEX")) ∙ sym c.in-Some-Some.ensures in
    let text = sym (first_value-rows found (codes "text")) ∙ sym c.in-Some-Some.ensures' in
    is_clear (rows_of found) ask.value.way ask.form ask.value.input way_is tells.input
    (ap is_some hex ∙ sym (ap is_some text))

pub returns-in-None-None-clause-asked : goal.returns-in-None-None-clause-asked
returns-in-None-None-clause-asked c ask way_is tells =
    let found = found_of c.args.words.now in
    let hex = sym (first_value-rows found (codes "HEX")) ∙ sym c.in-None-None.ensures in
    let text = sym (first_value-rows found (codes "text")) ∙ sym c.in-None-None.ensures' in
    is_clear (rows_of found) ask.value.way ask.form ask.value.input way_is tells.input
    (ap is_some hex ∙ sym (ap is_some text))

use Rattle.std.proofs.Common.{◌≡◌, ◌∙◌, ap, sym, Some}
use Rattle.std.specs.Option.{option_and_then}
use Rattle.diagnostic_views.specs.Markers.{after_octet, marker_of, numbered, past_blanks, past_word}
use Rattle.diagnostic_views.proofs.source_places.marker.read_marker.Goals as goal

pub returns-in-Some-clause-value : goal.returns-in-Some-clause-value
unfolding marker_of
returns-in-Some-clause-value c =
    let found : after_octet 35 (past_blanks c.args.line.now) ≡ Some c.in-Some.rest.now =
    ap (after_octet 35) (sym c.past_blanks.ensures) ∙ sym c.in-Some.ensures in
    c.numbered.ensures.value ∙ ap numbered c.past_word.ensures
    ∙ ap (λ s. numbered (past_word s)) c.past_blanks-in-Some.ensures
    ∙ sym (ap (option_and_then (λ rest. numbered (past_word (past_blanks rest)))) found)

pub returns-in-None-clause-value : goal.returns-in-None-clause-value
unfolding marker_of
returns-in-None-clause-value c =
    ap (option_and_then (λ rest. numbered (past_word (past_blanks rest))))
    (c.in-None.ensures ∙ ap (after_octet 35) c.past_blanks.ensures)

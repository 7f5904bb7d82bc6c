use Rattle.std.proofs.Common.{rules, tests, ◌≡◌, ◌∙◌, ap, not, length, unwrap_or, drop}
use Rattle.std.specs.List.{position}
use Rattle.std.proofs.lemmas.Iterator.{YieldsList-from_slice}
use Rattle.std.proofs.lemmas.Iterator.Search.{position_from_yields_List}
use Rattle.idl_lexer.specs.Octets.{is_word}
use Rattle.idl_lexer.proofs.Runs.{run-position, not_not}
use Rattle.idl_lexer.proofs.identifiers.past_others.Goals as goal

pub returns : goal.returns
returns c =
    let octets = c.args.octets.now in
    let found : c.position-first.result ≡ position (λ o. not (not (is_word o))) octets =
    position_from_yields_List (λ o. not (not (is_word o))) _ _ c.position-first.result c.position-first.ensures.ran
    (YieldsList-from_slice _ c.iter.ensures.rest) (λ x b q k. search (rules, tests, not_not)) in
    c.split_at.ensures.back
    ∙ ap (λ n. drop n octets) (c.unwrap_or.ensures ∙ ap (λ r. unwrap_or r (length octets)) found
    ∙ run-position (λ o. not (is_word o)) octets)

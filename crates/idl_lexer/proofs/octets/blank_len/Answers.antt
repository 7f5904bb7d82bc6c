use Rattle.std.proofs.Common.{rules, tests, ◌≡◌, ◌∙◌, ap, not, length, unwrap_or}
use Rattle.std.specs.List.{position}
use Rattle.std.proofs.lemmas.Iterator.{YieldsList-from_slice}
use Rattle.std.proofs.lemmas.Iterator.Search.{position_from_yields_List}
use Rattle.idl_lexer.specs.Octets.{is_blank}
use Rattle.idl_lexer.proofs.Runs.{run-position}
use Rattle.idl_lexer.proofs.octets.blank_len.Goals as goal

pub returns-clause-value : goal.returns-clause-value
returns-clause-value c =
    let found : c.position.result ≡ position (λ o. not (is_blank o)) c.args.octets.now =
    position_from_yields_List (λ o. not (is_blank o)) _ _ c.position.result c.position.ensures.ran
    (YieldsList-from_slice _ c.iter.ensures.rest) (λ x b q k. search (rules, tests)) in
    c.unwrap_or.ensures
    ∙ ap (λ r. unwrap_or r (length c.args.octets.now)) found
    ∙ run-position is_blank c.args.octets.now

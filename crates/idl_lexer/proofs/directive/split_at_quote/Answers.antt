use Rattle.std.proofs.Common.{◌∙◌, ap, drop, take}
use Rattle.idl_lexer.proofs.Runs.{run-first}
use Rattle.idl_lexer.proofs.directive.split_at_quote.Goals as goal

pub returns-clause-before : goal.returns-clause-before
returns-clause-before c =
    c.split_at.ensures.front
    ∙ ap (λ k. take k c.args.octets.now) (c.unwrap_or.ensures ∙ run-first 34 c.args.octets.now _ c.memchr.ensures)

pub returns-clause-from : goal.returns-clause-from
returns-clause-from c =
    c.split_at.ensures.back ∙ ap (λ k. drop k c.args.octets.now)
    (c.unwrap_or.ensures ∙ run-first 34 c.args.octets.now _ c.memchr.ensures)

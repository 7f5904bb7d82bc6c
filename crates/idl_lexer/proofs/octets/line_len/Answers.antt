use Rattle.std.proofs.Common.{◌∙◌}
use Rattle.idl_lexer.proofs.Runs.{run-first}
use Rattle.idl_lexer.proofs.octets.line_len.Goals as goal

pub returns-clause-value : goal.returns-clause-value
returns-clause-value c = c.unwrap_or.ensures ∙ run-first 10 c.args.octets.now _ c.memchr.ensures

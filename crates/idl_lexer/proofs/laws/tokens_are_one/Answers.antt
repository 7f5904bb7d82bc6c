use Rattle.idl_lexer.proofs.Paths.{one_list}
use Rattle.idl_lexer.proofs.laws.tokens_are_one.Goals as goal

pub returns : goal.returns
returns c source tokens others lexed lines lexed' lines' = one_list source tokens others lexed lines lexed' lines'

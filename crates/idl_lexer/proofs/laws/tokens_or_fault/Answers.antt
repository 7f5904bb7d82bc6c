use Rattle.idl_lexer.proofs.OneFault.{fault_or_tokens}
use Rattle.idl_lexer.proofs.laws.tokens_or_fault.Goals as goal

pub returns : goal.returns
returns c source tokens fault lexed is = fault_or_tokens source tokens fault lexed is

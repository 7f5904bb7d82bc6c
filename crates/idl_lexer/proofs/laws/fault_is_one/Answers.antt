use Rattle.idl_lexer.proofs.OneFault.{one_fault}
use Rattle.idl_lexer.proofs.laws.fault_is_one.Goals as goal

pub returns : goal.returns
returns c source fault other is is2 = one_fault source fault other is is2

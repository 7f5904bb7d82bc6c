use Rattle.std.proofs.Common.{rules}
use Rattle.reference_texts.proofs.Ports.{no_port}
use Rattle.reference_texts.proofs.corbaloc.address.port_of.Goals as goal

pub returns-in-Err : goal.returns-in-Err
returns-in-Err c = no_port _ c.args.digits.now c.in-Err.field-0 c.in-Err.ensures.value.0 (search rules)

use Rattle.std.proofs.Common.{arith}
use Rattle.reference_texts.proofs.Keys.{too_short}
use Rattle.reference_texts.proofs.corbaloc.key.escaped_of.Goals as goal

pub returns-in_default-clause-refused : goal.returns-in_default-clause-refused
returns-in_default-clause-refused c = too_short c.args.text.now (omega arith)

use Rattle.std.proofs.Common.{arith}
use Rattle.reference_texts.proofs.ListLaws.{octets_below}
use Rattle.reference_texts.proofs.reference.push_one.Goals as goal

pub returns-clause-octets : goal.returns-clause-octets
returns-clause-octets c = octets_below c.args.octets.now (λ i. omega (arith, c.type_inv.octets i))

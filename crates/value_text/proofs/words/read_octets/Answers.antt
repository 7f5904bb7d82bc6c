use Rattle.std.proofs.Common.{rules}
use Rattle.value_text.proofs.words.read_octets.Goals as goal

pub returns-in_ok-values_of-in-Some-clause-said : goal.returns-in_ok-values_of-in-Some-clause-said
returns-in_ok-values_of-in-Some-clause-said c = (c.in-Some.octets.items, search rules, search rules)

use Rattle.type_graph.proofs.WalkLaws.{zero_unfolds}
use Rattle.type_graph.proofs.laws.zero_is_of_parts.Goals as goal

pub returns : goal.returns
returns c = zero_unfolds

use Rattle.type_graph.proofs.WalkLaws.{leaves_unfold}
use Rattle.type_graph.proofs.laws.leaves_are_of_parts.Goals as goal

pub returns : goal.returns
returns c = leaves_unfold

use Rattle.type_graph.proofs.WalkLaws.{lead_unfolds}
use Rattle.type_graph.proofs.laws.lead_is_of_first_part.Goals as goal

pub returns : goal.returns
returns c = lead_unfolds

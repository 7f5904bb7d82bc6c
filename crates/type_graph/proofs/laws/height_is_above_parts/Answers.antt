use Rattle.type_graph.proofs.HeightLaws.{height_unfolds}
use Rattle.type_graph.proofs.laws.height_is_above_parts.Goals as goal

pub returns : goal.returns
returns c = λ graph rules number. height_unfolds graph rules number

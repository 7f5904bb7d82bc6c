use Rattle.type_graph.proofs.WordLaws.{pad_reaches, pad_least}
use Rattle.type_graph.proofs.laws.gap_is_least.Goals as goal

pub returns : goal.returns
returns c = record { reaches = pad_reaches; least = pad_least }

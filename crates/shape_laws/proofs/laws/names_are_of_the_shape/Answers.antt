use Rattle.shape_laws.proofs.NameReading.{names_same}
use Rattle.shape_laws.proofs.laws.names_are_of_the_shape.Goals as goal

pub returns : goal.returns
returns c = names_same

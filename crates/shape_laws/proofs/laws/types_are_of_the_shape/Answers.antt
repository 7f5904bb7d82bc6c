use Rattle.shape_laws.proofs.OperationsOfFiles.{defined_same}
use Rattle.shape_laws.proofs.laws.types_are_of_the_shape.Goals as goal

pub returns : goal.returns
returns c = defined_same

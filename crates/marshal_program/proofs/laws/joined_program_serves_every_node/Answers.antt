use Rattle.marshal_program.proofs.JoinedPlaces.{joined_serves}
use Rattle.marshal_program.proofs.laws.joined_program_serves_every_node.Goals as goal

pub returns : goal.returns
returns c = joined_serves

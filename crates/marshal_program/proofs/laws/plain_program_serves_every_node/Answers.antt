use Rattle.marshal_program.proofs.PlainPlaces.{plain_serves}
use Rattle.marshal_program.proofs.laws.plain_program_serves_every_node.Goals as goal

pub returns : goal.returns
returns c = plain_serves

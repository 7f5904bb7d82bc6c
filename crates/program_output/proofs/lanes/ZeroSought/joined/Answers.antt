use Rattle.program_output.proofs.Chunks.{zero_in_least, length-least}
use Rattle.program_output.proofs.lanes.ZeroSought.joined.Goals as goal

pub returns-clause-long : goal.returns-clause-long
returns-clause-long c = length-least c.args.lanes c.args.others c.requires.as_long

pub returns-clause-either : goal.returns-clause-either
returns-clause-either c = zero_in_least c.args.lanes c.args.others c.requires.as_long

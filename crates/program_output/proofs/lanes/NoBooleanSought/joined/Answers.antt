use Rattle.program_output.proofs.Chunks.{no_boolean_in_greatest, length-greatest}
use Rattle.program_output.proofs.lanes.NoBooleanSought.joined.Goals as goal

pub returns-clause-long : goal.returns-clause-long
returns-clause-long c = length-greatest c.args.lanes c.args.others c.requires.as_long

pub returns-clause-either : goal.returns-clause-either
returns-clause-either c = no_boolean_in_greatest c.args.lanes c.args.others c.requires.as_long

use Rattle.program_output.proofs.TurnedWords.{longs_turned}
use Rattle.program_output.proofs.turning.LongsWords.turn.Goals as goal

pub returns : goal.returns
returns c = longs_turned c.args.lanes c.requires

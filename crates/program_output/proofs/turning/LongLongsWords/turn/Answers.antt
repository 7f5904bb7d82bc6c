use Rattle.program_output.proofs.TurnedWords.{long_longs_turned}
use Rattle.program_output.proofs.turning.LongLongsWords.turn.Goals as goal

pub returns : goal.returns
returns c = long_longs_turned c.args.lanes c.requires

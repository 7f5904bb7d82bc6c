use Rattle.program_output.proofs.TurnedWords.{shorts_turned}
use Rattle.program_output.proofs.turning.ShortsWords.turn.Goals as goal

pub returns : goal.returns
returns c = shorts_turned c.args.lanes c.requires

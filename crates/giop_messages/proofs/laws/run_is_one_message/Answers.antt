use Rattle.giop_messages.proofs.RunFacts.{run_front}
use Rattle.giop_messages.proofs.laws.run_is_one_message.Goals as goal

-- src/laws.rt:15:1
pub returns : goal.returns
returns c = run_front

use Rattle.giop_messages.proofs.StreamFacts.{front_longer}
use Rattle.giop_messages.proofs.laws.more_octets_leave_the_front.Goals as goal

-- src/laws.rt:8:1
pub returns : goal.returns
returns c = front_longer

use Rattle.giop.proofs.RoundTrips.{reply_said}
use Rattle.giop.proofs.laws.written_reply_is_said.Goals as goal

pub returns : goal.returns
returns c = reply_said

use Rattle.giop.proofs.RoundTrips.{request_said}
use Rattle.giop.proofs.laws.written_request_is_said.Goals as goal

pub returns : goal.returns
returns c = request_said

use Rattle.broker_answers.proofs.Cuts.{in_pieces}
use Rattle.broker_answers.proofs.laws.stream_in_pieces.Goals as goal

pub returns : goal.returns
returns c = λ run octets more. in_pieces run octets more

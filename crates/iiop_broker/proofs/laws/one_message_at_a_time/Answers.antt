use Rattle.iiop_broker.proofs.OneMessage.{one_at_a_time}
use Rattle.iiop_broker.proofs.laws.one_message_at_a_time.Goals as goal

pub returns : goal.returns
returns c = λ run rest more is le. one_at_a_time run rest more is le

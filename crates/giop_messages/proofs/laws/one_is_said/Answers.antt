use Rattle.giop_messages.proofs.OneMessage.{says_once}
use Rattle.reference_texts.proofs.ProfileKeys.{profile_key_once}
use Rattle.giop_messages.proofs.laws.one_is_said.Goals as goal

pub returns : goal.returns
returns c = λ octets a b s t. says_once profile_key_once octets a b s t

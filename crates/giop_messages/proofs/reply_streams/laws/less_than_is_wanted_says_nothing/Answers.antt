use Rattle.giop_messages.proofs.Waiting.{still_waits}
use Rattle.giop_messages.proofs.reply_streams.laws.less_than_is_wanted_says_nothing.Goals as goal

pub returns : goal.returns
returns c = still_waits

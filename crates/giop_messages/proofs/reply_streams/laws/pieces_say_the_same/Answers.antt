use Rattle.giop_messages.proofs.Hearing.{in_pieces}
use Rattle.giop_messages.proofs.reply_streams.laws.pieces_say_the_same.Goals as goal

pub returns : goal.returns
returns c = in_pieces

use Rattle.std.proofs.Common.{arith}
use Rattle.giop_messages.proofs.ReplyStreamsHeadFacts.{limited}
use Rattle.giop_messages.proofs.reply_streams.turn.take_fragment.Goals as goal

pub is_broken_by-requires : goal.is_broken_by-requires
is_broken_by-requires c =
    limited c.args.message.now c.args.head.now (omega (arith, c.requires.sent.1)) c.requires.sent.0

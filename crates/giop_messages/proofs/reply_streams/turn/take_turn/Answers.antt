use Rattle.std.proofs.Common.{◌≡◌, Ok, sym, subst, ◌∙◌, arith}
use Rattle.giop_messages.specs.ReplyStreamsHeads.{reply_head}
use Rattle.giop_messages.specs.inner.Runs.{IsSent}
use Rattle.giop_messages.proofs.ReplyStreamsHeadFacts.{sent_at}
use Rattle.giop_messages.proofs.reply_streams.turn.take_turn.Goals as goal

pub take_message-requires : goal.take_message-requires
take_message-requires c =
    let octets = c.args.octets.now in
    let e : reply_head octets ≡ Ok c.in-Ok.head = sym c.reply_head.ensures ∙ c.in-Ok.is in
    subst (IsSent c.in-Ok.head) (sym c.split_at.ensures.front)
    (sent_at c.in-Ok.head octets e (omega (arith, c.if-octets-len.false)))

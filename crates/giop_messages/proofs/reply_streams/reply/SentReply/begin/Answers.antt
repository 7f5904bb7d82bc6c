use Rattle.std.proofs.Common.{sym, subst}
use Rattle.giop_messages.specs.declared.head.MessageKind.TheVariants.{Reply}
use Rattle.giop_messages.specs.Runs.{IsAlone}
use Rattle.giop_messages.proofs.ReplyStreamsRunFacts.{first_run}
use Rattle.giop_messages.proofs.reply_streams.reply.SentReply.begin.Goals as goal

pub invariant_of-result : goal.invariant_of-result
invariant_of-result c = subst (IsAlone Reply) (sym c.in_ok-octets_alone.ensures) (first_run c.args.first.now c.requires)

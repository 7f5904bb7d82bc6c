use Rattle.std.proofs.Common.{subst}
use Rattle.table_file.specs.Table.{TableParts}
use Rattle.giop_messages.specs.Messages.{asked_of}
use Rattle.broker_answers.specs.Replies.{IsSent, reply_of}
use Rattle.broker_answers.proofs.Sent.{own_unsendable}
use Rattle.broker_answers.proofs.reply.Replier.send_own.Goals as goal

pub returns-in-Ok : goal.returns-in-Ok
returns-in-Ok c =
    let asked = asked_of c.args.self.now.request.now in
    subst (λ (t : TableParts). IsSent asked (reply_of c.args.status t.model.graph c.args.node c.args.tape.now)
    c.in-Ok.octets.items)
    c.table.ensures (record { written = c.in-Ok.ensures.written; short = c.in-Ok.ensures.limited })

pub unreachable-requires : goal.unreachable-requires
unreachable-requires c =
    c.requires.sendable
    (own_unsendable c.in-Err.fault (asked_of c.args.self.now.request.now) c.args.status c.table.result.now c.args.node
    c.args.tape.now c.in_default.not-NoMemory c.table.ensures c.in-Err.ensures.refused)

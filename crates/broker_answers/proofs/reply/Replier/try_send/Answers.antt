use Rattle.std.proofs.Common.{inr, subst}
use Rattle.type_graph.specs.GraphRules.{IsGraph}
use Rattle.table_file.specs.Table.{TableParts}
use Rattle.giop_messages.specs.Messages.{asked_of}
use Rattle.giop.specs.Made.{given}
use Rattle.broker_answers.specs.declared.exception.BrokerException.TheVariants.{Internal}
use Rattle.broker_answers.specs.Replies.{IsSent, exception_reply, reply_of}
use Rattle.broker_answers.specs.inner.Sending.{IsTried}
use Rattle.broker_answers.proofs.Cases.{if_ok}
use Rattle.broker_answers.proofs.Sent.{body_unsendable}
use Rattle.broker_answers.proofs.reply.Replier.try_send.Goals as goal

pub returns-in_default : goal.returns-in_default
returns-in_default c =
    let asked = asked_of c.args.self.now.request.now in
    let graph = c.args.self.now.accepted.now.model.graph in
    let reply = reply_of c.args.status graph c.args.node c.args.tape.now in
    let none = body_unsendable c.in-Err.fault asked c.args.status (given graph c.args.node c.args.tape.now)
    c.in_default.not-NoMemory
    (subst (λ (t : TableParts). IsGraph t.model.graph) c.table.ensures.value c.model-model.ensures.rules.model.graph)
    c.in-Err.ensures.refused in
    if_ok c.exception.result (λ octets. IsSent asked (exception_reply Internal) octets.items)
    (λ octets. IsTried asked reply octets.items) (λ octets sent. inr (record { unsendable = none; sent = sent }))
    c.exception.ensures

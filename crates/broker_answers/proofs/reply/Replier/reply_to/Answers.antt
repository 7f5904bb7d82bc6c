use Rattle.std.proofs.Common.{IfOk, ap, subst, sym, ◌∙◌}
use Rattle.giop_messages.specs.Messages.{asked_of}
use Rattle.broker_answers.specs.Replies.{Replies, success}
use Rattle.broker_answers.specs.inner.Sending.{IsRaising, IsTried}
use Rattle.broker_answers.specs.Servants.{Said, Done, Raised, said_of}
use Rattle.broker_answers.proofs.Cases.{if_ok}
use Rattle.broker_answers.proofs.Outcomes.{done_replied, raising_replied}
use Rattle.broker_answers.proofs.reply.Replier.reply_to.Goals as goal

pub returns-in-Done : goal.returns-in-Done
returns-in-Done c =
    let model = c.args.self.now.accepted.now.model in
    let asked = asked_of c.args.self.now.request.now in
    let operation = c.args.call.now.operation.now in
    let tape = c.as_slice.result.now in
    subst (λ (said : Said). IfOk c.try_send.result (λ octets. Replies model asked operation said octets.items))
    (ap Done c.as_slice.ensures.value ∙ sym (ap said_of c.in-Done.is))
    (if_ok c.try_send.result (λ octets. IsTried asked (success model operation tape) octets.items)
    (λ octets. Replies model asked operation (Done tape) octets.items)
    (λ octets h. done_replied model asked operation tape octets.items h) c.try_send.ensures)

pub returns-in-Raised : goal.returns-in-Raised
returns-in-Raised c =
    let model = c.args.self.now.accepted.now.model in
    let asked = asked_of c.args.self.now.request.now in
    let operation = c.args.call.now.operation.now in
    let place = c.in-Raised.place in
    let tape = c.as_slice-in-Raised.result.now in
    subst (λ (said : Said). IfOk c.raise.result (λ octets. Replies model asked operation said octets.items))
    (ap (Raised place) c.as_slice-in-Raised.ensures.value ∙ sym (ap said_of c.in-Raised.is))
    (if_ok c.raise.result (λ octets. IsRaising model asked operation place tape octets.items)
    (λ octets. Replies model asked operation (Raised place tape) octets.items)
    (λ octets h. raising_replied model asked operation place tape octets.items h) c.raise.ensures)

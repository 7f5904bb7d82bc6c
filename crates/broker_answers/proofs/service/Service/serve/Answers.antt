use Rattle.std.proofs.Common.{Some, ap, subst}
use Rattle.giop_messages.specs.Messages.{Answers, Asks, Says, answered_of, asked_of, content_of}
use Rattle.broker_answers.specs.Answering.{MayMoveRaw}
use Rattle.broker_answers.specs.Servants.{acts}
use Rattle.broker_answers.proofs.Cases.{on_err}
use Rattle.broker_answers.proofs.ServedRaws.{may_move_raw, refused_reply, unanswered}
use Rattle.broker_answers.proofs.service.Service.serve.Goals as goal

pub returns-in_err-answer_request-in-Request-clause-given_up :
    goal.returns-in_err-answer_request-in-Request-clause-given_up
returns-in_err-answer_request-in-Request-clause-given_up g c =
    let acting = acts g.S.Servant.says g.S.Servant.after in
    let octets = c.args.octets.now in
    let content = Asks (asked_of c.in-Request.request) in
    let before = c.args.servant.now in
    let after = c.answer_request.new.servant in
    let said = rw c.in-Ok-Some.field-0-is at c.in-Ok-Some.ensures.found in
    let says = subst (λ k. Says octets k) (ap content_of c.in-Request.is) said in
    on_err c.from_residual.result (MayMoveRaw acting c.args.self.now (Some octets) before after)
    (may_move_raw acting c.args.self.now octets content before after says
    c.in_err-answer_request-in-Request.ensures.given_up)

pub returns-in-Reply-clause-served : goal.returns-in-Reply-clause-served
returns-in-Reply-clause-served g c =
    let acting = acts g.S.Servant.says g.S.Servant.after in
    let octets = c.args.octets.now in
    let said = rw c.in-Ok-Some.field-0-is at c.in-Ok-Some.ensures.found in
    let says = subst (λ k. Says octets k) (ap content_of c.in-Reply.is) said in
    refused_reply acting c.args.self.now octets (answered_of c.in-Reply.field-0) c.args.servant.now
    c.refuse-in-Reply.result
    says c.refuse-in-Reply.ensures.octets c.refuse-in-Reply.ensures.closes

pub returns-clause-served : goal.returns-clause-served
returns-clause-served g c =
    unanswered (acts g.S.Servant.says g.S.Servant.after) c.args.self.now c.args.octets.now c.in-Ok-Some.message
    c.args.servant.now c.new.result.items c.closes-closes.result c.in-Cancel.is
    (rw c.in-Ok-Some.field-0-is at c.in-Ok-Some.ensures.found) c.new.ensures.items c.closes-closes.ensures

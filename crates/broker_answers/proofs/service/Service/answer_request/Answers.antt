use Rattle.std.proofs.Common.{◌≡◌, ◌∙◌, IfOk, List, ℕ, Some, inr, ap, refl, slice_get, subst, sym}
use Rattle.giop_messages.specs.Messages.{asked_of}
use Rattle.broker_answers.specs.Servants.{Call, Said, acts, call_of, said_of}
use Rattle.broker_answers.specs.Objects.{Served}
use Rattle.broker_answers.specs.Findings.{Calls, Refuses, Tells, Finds}
use Rattle.broker_answers.specs.inner.FindingSteps.{IsKnown, call_asked, finding_of}
use Rattle.broker_answers.specs.Replies.{AnswersRequest, IsSent, Replies, acceptance}
use Rattle.broker_answers.specs.Answering.{IsAnswered, MayMove, scope_by}
use Rattle.broker_answers.specs.Serving.{MovesRequest}
use Rattle.broker_answers.proofs.Cases.{if_ok, on_ok, on_err}
use Rattle.broker_answers.proofs.Requests.{accepted, is_answered, is_moved, may_move, replied, silent}
use Rattle.broker_answers.proofs.service.Service.answer_request.Goals as goal

pub returns-in-Refuses-clause-answered : goal.returns-in-Refuses-clause-answered
returns-in-Refuses-clause-answered g c =
    let self = c.args.self.now in
    let asked = asked_of c.args.request.now in
    let finding = Refuses c.in-Refuses.exception in
    let says = g.S.Servant.says c.args.servant.now in
    let finds = subst (λ f. Finds self asked (finding_of f)) c.in-Refuses.is c.in_ok-exception.ensures.finds in
    if_ok c.refuse.result (λ octets. (served : Served) (says : Call → Said)
    → IsAnswered served asked finding says octets.items)
    (λ octets. AnswersRequest self asked says octets.items)
    (λ octets h. is_answered self asked finding says octets.items finds (h self says)) c.refuse.ensures

pub returns-in-Refuses-clause-moved : goal.returns-in-Refuses-clause-moved
returns-in-Refuses-clause-moved g c =
    let self = c.args.self.now in
    let asked = asked_of c.args.request.now in
    let servant = c.args.servant.now in
    let acting = acts g.S.Servant.says g.S.Servant.after in
    let finds = subst (λ f. Finds self asked (finding_of f)) c.in-Refuses.is c.in_ok-exception.ensures.finds in
    on_ok c.refuse.result (MovesRequest acting self asked servant servant)
    (is_moved acting self asked (Refuses c.in-Refuses.exception) servant servant finds refl)

pub returns-in-Tells-clause-answered : goal.returns-in-Tells-clause-answered
returns-in-Tells-clause-answered g c =
    let self = c.args.self.now in
    let asked = asked_of c.args.request.now in
    let finding = Tells c.in-Tells.truth in
    let says = g.S.Servant.says c.args.servant.now in
    let finds = subst (λ f. Finds self asked (finding_of f)) c.in-Tells.is c.in_ok-exception.ensures.finds in
    if_ok c.tell.result (λ octets. (served : Served) (says : Call → Said)
    → IsAnswered served asked finding says octets.items)
    (λ octets. AnswersRequest self asked says octets.items)
    (λ octets h. is_answered self asked finding says octets.items finds (h self says)) c.tell.ensures

pub returns-in-Tells-clause-moved : goal.returns-in-Tells-clause-moved
returns-in-Tells-clause-moved g c =
    let self = c.args.self.now in
    let asked = asked_of c.args.request.now in
    let servant = c.args.servant.now in
    let acting = acts g.S.Servant.says g.S.Servant.after in
    let finds = subst (λ f. Finds self asked (finding_of f)) c.in-Tells.is c.in_ok-exception.ensures.finds in
    on_ok c.tell.result (MovesRequest acting self asked servant servant)
    (is_moved acting self asked (Tells c.in-Tells.truth) servant servant finds refl)

-- ---- the servant is called

pub reply_to-requires : goal.reply_to-requires
reply_to-requires g c =
    let call = c.in-Calls.call in
    subst (λ (s : Served). slice_get s.model.operations call.number ≡ Some call.operation.now) (sym c.self.view_is)
    (subst (λ f. IsKnown c.args.self.now.model f) c.in-Calls.is c.in_ok-exception.ensures.known)

pub returns-in-WithTarget-clause-answered : goal.returns-in-WithTarget-clause-answered
returns-in-WithTarget-clause-answered g c =
    let self = c.args.self.now in
    let asked = asked_of c.args.request.now in
    let call = c.in-Calls.call in
    let one : Call = call_asked call in
    let says = g.S.Servant.says c.args.servant.now in
    let said = said_of c.in_ok-outcome.outcome in
    let finds = subst (λ f. Finds self asked (finding_of f)) c.in-Calls.is c.in_ok-exception.ensures.finds in
    let known = subst (λ f. IsKnown self.model f) c.in-Calls.is c.in_ok-exception.ensures.known in
    let scope = sym (ap scope_by c.in-WithTarget.is) ∙ c.sync_scope.ensures in
    let is : said ≡ says one = c.in_ok-outcome.ensures.says
    ∙ ap (λ (l : List ℕ). says (call_of call.object call.number l)) c.as_slice-arguments.ensures.value in
    if_ok c.reply_to.result (λ octets. Replies self.model asked call.operation.now said octets.items)
    (λ octets. AnswersRequest self asked says octets.items)
    (λ octets h. replied self asked one says call.operation.now said octets.items finds scope known is h)
    (subst (λ (s : Served). IfOk c.reply_to.result
    (λ octets. Replies s.model asked call.operation.now said octets.items))
    c.self.view_is c.reply_to.ensures)

pub returns-in-WithTarget-clause-moved : goal.returns-in-WithTarget-clause-moved
returns-in-WithTarget-clause-moved g c =
    let self = c.args.self.now in
    let asked = asked_of c.args.request.now in
    let call = c.in-Calls.call in
    let acting = acts g.S.Servant.says g.S.Servant.after in
    let finds = subst (λ f. Finds self asked (finding_of f)) c.in-Calls.is c.in_ok-exception.ensures.finds in
    on_ok c.reply_to.result (MovesRequest acting self asked c.args.servant.now c.call.new.self)
    (is_moved acting self asked (Calls (call_asked call)) c.args.servant.now c.call.new.self finds
    (c.in_ok-outcome.ensures.after
    ∙ ap (λ (l : List ℕ). g.S.Servant.after c.args.servant.now (call_of call.object call.number l))
    c.as_slice-arguments.ensures.value))

pub returns-in-WithTarget-clause-given_up : goal.returns-in-WithTarget-clause-given_up
returns-in-WithTarget-clause-given_up g c =
    let self = c.args.self.now in
    let asked = asked_of c.args.request.now in
    let call = c.in-Calls.call in
    let acting = acts g.S.Servant.says g.S.Servant.after in
    let finds = subst (λ f. Finds self asked (finding_of f)) c.in-Calls.is c.in_ok-exception.ensures.finds in
    on_err c.reply_to.result (MayMove acting self asked c.args.servant.now c.call.new.self)
    (may_move acting self asked (Calls (call_asked call)) c.args.servant.now c.call.new.self finds
    (inr (c.in_ok-outcome.ensures.after
    ∙ ap (λ (l : List ℕ). g.S.Servant.after c.args.servant.now (call_of call.object call.number l))
    c.as_slice-arguments.ensures.value)))

pub returns-in-WithServer-clause-answered : goal.returns-in-WithServer-clause-answered
returns-in-WithServer-clause-answered g c =
    let self = c.args.self.now in
    let asked = asked_of c.args.request.now in
    let one : Call = call_asked c.in-Calls.call in
    let says = g.S.Servant.says c.args.servant.now in
    let finds = subst (λ f. Finds self asked (finding_of f)) c.in-Calls.is c.in_ok-exception.ensures.finds in
    let scope = sym (ap scope_by c.in-WithServer.is) ∙ c.sync_scope.ensures in
    if_ok c.acceptance.result (λ octets. IsSent asked acceptance octets.items)
    (λ octets. AnswersRequest self asked says octets.items)
    (λ octets h. accepted self asked one says octets.items finds scope h) c.acceptance.ensures

pub returns-in-WithServer-clause-moved : goal.returns-in-WithServer-clause-moved
returns-in-WithServer-clause-moved g c =
    let self = c.args.self.now in
    let asked = asked_of c.args.request.now in
    let call = c.in-Calls.call in
    let acting = acts g.S.Servant.says g.S.Servant.after in
    let finds = subst (λ f. Finds self asked (finding_of f)) c.in-Calls.is c.in_ok-exception.ensures.finds in
    on_ok c.acceptance.result (MovesRequest acting self asked c.args.servant.now c.call.new.self)
    (is_moved acting self asked (Calls (call_asked call)) c.args.servant.now c.call.new.self finds
    (c.in_ok-outcome.ensures.after
    ∙ ap (λ (l : List ℕ). g.S.Servant.after c.args.servant.now (call_of call.object call.number l))
    c.as_slice-arguments.ensures.value))

pub returns-in-WithServer-clause-given_up : goal.returns-in-WithServer-clause-given_up
returns-in-WithServer-clause-given_up g c =
    let self = c.args.self.now in
    let asked = asked_of c.args.request.now in
    let call = c.in-Calls.call in
    let acting = acts g.S.Servant.says g.S.Servant.after in
    let finds = subst (λ f. Finds self asked (finding_of f)) c.in-Calls.is c.in_ok-exception.ensures.finds in
    on_err c.acceptance.result (MayMove acting self asked c.args.servant.now c.call.new.self)
    (may_move acting self asked (Calls (call_asked call)) c.args.servant.now c.call.new.self finds
    (inr (c.in_ok-outcome.ensures.after
    ∙ ap (λ (l : List ℕ). g.S.Servant.after c.args.servant.now (call_of call.object call.number l))
    c.as_slice-arguments.ensures.value)))

pub returns-clause-answered : goal.returns-clause-answered
returns-clause-answered g c =
    let self = c.args.self.now in
    let asked = asked_of c.args.request.now in
    let one : Call = call_asked c.in-Calls.call in
    let says = g.S.Servant.says c.args.servant.now in
    let finds = subst (λ f. Finds self asked (finding_of f)) c.in-Calls.is c.in_ok-exception.ensures.finds in
    let scope = sym (ap scope_by c.in-NoResponse.is) ∙ c.sync_scope.ensures in
    silent self asked one says c.new.result.items finds scope c.new.ensures.items

pub returns-clause-moved : goal.returns-clause-moved
returns-clause-moved g c =
    let self = c.args.self.now in
    let asked = asked_of c.args.request.now in
    let call = c.in-Calls.call in
    let acting = acts g.S.Servant.says g.S.Servant.after in
    let finds = subst (λ f. Finds self asked (finding_of f)) c.in-Calls.is c.in_ok-exception.ensures.finds in
    is_moved acting self asked (Calls (call_asked call)) c.args.servant.now c.call.new.self finds
    (c.in_ok-outcome.ensures.after
    ∙ ap (λ (l : List ℕ). g.S.Servant.after c.args.servant.now (call_of call.object call.number l))
    c.as_slice-arguments.ensures.value)

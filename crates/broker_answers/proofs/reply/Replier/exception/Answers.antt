use Rattle.std.proofs.Common.{List, ℕ, subst, ◌∙◌}
use Rattle.giop_types.specs.GiopNodes.{giop_nodes}
use Rattle.giop_messages.specs.declared.message.ReplyStatus.TheVariants.{SystemException}
use Rattle.giop_messages.specs.Messages.{asked_of}
use Rattle.broker_answers.specs.Replies.{IsUnsendable, reply_of}
use Rattle.broker_answers.proofs.Sent.{exception_there}
use Rattle.broker_answers.proofs.reply.Replier.exception.Goals as goal

pub send_own-requires-clause-sendable : goal.send_own-requires-clause-sendable
send_own-requires-clause-sendable c = λ none.
    exception_there (asked_of c.args.self.now.request.now) c.args.exception c.number-id.ensures.fits
    (subst (λ (tape : List ℕ). IsUnsendable (asked_of c.args.self.now.request.now)
    (reply_of SystemException giop_nodes 23 tape))
    (c.as_slice.ensures.value ∙ c.in_ok-tape.ensures) none)

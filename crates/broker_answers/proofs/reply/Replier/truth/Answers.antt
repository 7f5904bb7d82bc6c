use Rattle.std.proofs.Common.{List, ℕ, subst, ◌∙◌}
use Rattle.giop_types.specs.GiopNodes.{giop_nodes}
use Rattle.giop_messages.specs.declared.message.ReplyStatus.TheVariants.{NoException}
use Rattle.giop_messages.specs.Messages.{asked_of}
use Rattle.broker_answers.specs.Replies.{IsUnsendable, reply_of}
use Rattle.broker_answers.proofs.Sent.{truth_there}
use Rattle.broker_answers.proofs.reply.Replier.truth.Goals as goal

pub send_own-requires-clause-sendable : goal.send_own-requires-clause-sendable
send_own-requires-clause-sendable c = λ none.
    truth_there (asked_of c.args.self.now.request.now) c.args.truth c.number-id.ensures.fits
    (subst (λ (tape : List ℕ). IsUnsendable (asked_of c.args.self.now.request.now)
    (reply_of NoException giop_nodes 27 tape))
    (c.as_slice.ensures ∙ c.truth_tape-tape.ensures) none)

use Rattle.giop_messages.specs.Messages.{asked_of}
use Rattle.broker_answers.proofs.Sent.{acceptance_isnt_refused}
use Rattle.broker_answers.proofs.reply.Replier.acceptance.Goals as goal

pub unreachable-requires : goal.unreachable-requires
unreachable-requires c =
    acceptance_isnt_refused c.in-Err.fault (asked_of c.args.self.now.request.now) c.in_default.not-NoMemory
    c.number-id.ensures.fits
    c.in-Err.ensures.refused

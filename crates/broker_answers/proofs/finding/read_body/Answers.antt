use Rattle.giop_types.proofs.Found.{none_then, some_then}
use Rattle.giop_messages.specs.Messages.{asked_of}
use Rattle.broker_answers.proofs.Readings.{read_is, unread}
use Rattle.broker_answers.proofs.finding.read_body.Goals as goal

pub returns-in-Some : goal.returns-in-Some
returns-in-Some c =
    read_is c.args.accepted.now.model.graph (asked_of c.args.request.now) c.args.node c.in-Some.field-0-1
    c.in-Some.tape.items (some_then c.in_ok-tape.field-0 _ _ c.in-Some.is c.in_ok-tape.ensures.found)

pub returns-in-None : goal.returns-in-None
returns-in-None c =
    unread c.args.accepted.now.model.graph (asked_of c.args.request.now) c.args.node
    (none_then c.in_ok-tape.field-0 _ c.in-None.is c.in_ok-tape.ensures.none)

use Rattle.giop_messages.specs.Messages.{answered_of}
use Rattle.giop_types.proofs.Found.{none_then, some_then}
use Rattle.command_texts.proofs.Ids.{id_tape_is, no_id}
use Rattle.command_texts.proofs.call_texts.raised.id_tape.Goals as goal

pub returns-in-Some-clause-found : goal.returns-in-Some-clause-found
returns-in-Some-clause-found c =
    id_tape_is (answered_of c.args.reply.now) c.in-Some.field-0-1 c.in-Some.tape.items
    (some_then c.in_ok-tape.field-0 _ _ c.in-Some.is c.in_ok-tape.ensures.found)

pub returns-in-None-clause-none : goal.returns-in-None-clause-none
returns-in-None-clause-none c =
    no_id c.args.reply.now.order c.args.reply.now.body_at c.args.reply.now.octets.now
    (none_then c.in_ok-tape.field-0 _ c.in-None.is c.in_ok-tape.ensures.none)

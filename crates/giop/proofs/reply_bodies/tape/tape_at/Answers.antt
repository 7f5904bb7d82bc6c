use Rattle.giop_types.proofs.Found.{none_then, some_then}
use Rattle.giop.proofs.Faults.{none_read, tape_read}
use Rattle.giop.proofs.reply_bodies.tape.tape_at.Goals as goal

pub returns-in-Some-clause-found : goal.returns-in-Some-clause-found
returns-in-Some-clause-found c =
    tape_read c.args.octets.now c.args.order c.args.node c.args.place c.in-Some.tape.items c.in-Some.field-0-1
    (some_then c.in_ok-tape.field-0 _ _ c.in-Some.is c.in_ok-tape.ensures.found)

pub returns-in-None-clause-refused : goal.returns-in-None-clause-refused
returns-in-None-clause-refused c =
    none_read c.args.octets.now c.args.order c.args.node c.args.place
    (none_then c.in_ok-tape.field-0 _ c.in-None.is c.in_ok-tape.ensures.none)

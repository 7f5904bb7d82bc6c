use Rattle.giop_types.proofs.Found.{none_then, some_then}
use Rattle.giop.proofs.Places.{tape_found, no_tape}
use Rattle.giop.proofs.reading.message.Reading.header_tape.Goals as goal

pub returns-in-Some-clause-found : goal.returns-in-Some-clause-found
returns-in-Some-clause-found c =
    tape_found c.args.self.now.octets.now c.split_at.result.1.now c.args.self.now.head.now.order c.args.node
    c.in-Some.tape.items c.in-Some.taken c.split_at.ensures.back
    (some_then c.in_ok-tape.field-0 _ _ c.in-Some.is c.in_ok-tape.ensures.found)
    (some_then c.in_ok-tape.field-0 _ _ c.in-Some.is c.in_ok-tape.ensures.within)

pub returns-in-None-clause-refused : goal.returns-in-None-clause-refused
returns-in-None-clause-refused c =
    no_tape c.args.self.now.octets.now c.split_at.result.1.now c.args.self.now.head.now.order c.args.node
    c.split_at.ensures.back (none_then c.in_ok-tape.field-0 _ c.in-None.is c.in_ok-tape.ensures.none)

use Rattle.std.proofs.Common.{refl}
use Rattle.giop_messages.specs.Messages.{sought_of}
use Rattle.giop_types.proofs.Found.{none_then, some_then}
use Rattle.giop.proofs.Contents.{NoHeader, no_locate, lent, locate_said}
use Rattle.giop.proofs.reading.message.Reading.locate.Goals as goal

pub returns-in-None-clause-refused : goal.returns-in-None-clause-refused
returns-in-None-clause-refused c =
    let octets = c.args.self.now.octets.now in
    let head = c.args.self.now.head.now in
    no_locate octets head c.requires
    (none_then c.in_ok-tape.field-0 (NoHeader octets head 20) c.in-None.is c.in_ok-tape.ensures.refused)

pub returns-clause-found : goal.returns-clause-found
returns-clause-found c =
    let octets = c.args.self.now.octets.now in
    let head = c.args.self.now.head.now in
    locate_said octets head c.as_slice.result.now c.in-Some.field-0-1 c.in-Ok.header
    (sought_of (record { id = c.in-Ok.header.id; key = c.in_ok-key.key; order = head.order })) c.requires
    (lent octets head.order 20 c.in-Some.tape.items c.as_slice.result.now c.in-Some.field-0-1 c.as_slice.ensures.value
    (some_then c.in_ok-tape.field-0 (c.in-Some.tape, c.in-Some.field-0-1) _ c.in-Some.is c.in_ok-tape.ensures.found))
    c.in-Ok.ensures.found refl refl c.in_ok-key.ensures

use Rattle.giop_types.proofs.Found.{none_then}
use Rattle.giop.proofs.Contents.{NoHeader, no_cancel}
use Rattle.giop.proofs.reading.message.Reading.cancel.Goals as goal

pub returns-in-None-clause-refused : goal.returns-in-None-clause-refused
returns-in-None-clause-refused c =
    let octets = c.args.self.now.octets.now in
    let head = c.args.self.now.head.now in
    no_cancel octets head c.requires
    (none_then c.in_ok-tape.field-0 (NoHeader octets head 22) c.in-None.is c.in_ok-tape.ensures.refused)

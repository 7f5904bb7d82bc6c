use Rattle.reference_listing.proofs.Splits.{no_key, no_port}
use Rattle.reference_listing.proofs.tape.split_address.Goals as goal

pub returns-in_default-split_u16-clause-refused : goal.returns-in_default-split_u16-clause-refused
returns-in_default-split_u16-clause-refused c = λ host port key rest a.
    no_port c.args.tape.now c.in-Some.host.now c.in-Some.behind.now host port key rest a c.in-Some.ensures.found.0
    c.in-Some.ensures.found.1 c.in_default-split_u16.ensures.refused

pub returns-in-None-clause-refused : goal.returns-in-None-clause-refused
returns-in-None-clause-refused c = λ host port key rest a.
    no_key c.args.tape.now c.in-Some.host.now c.in-Some.behind.now c.in-Some-split_u16.port
    c.in-Some-split_u16.behind.now
    host port key rest a c.in-Some.ensures.found.0 c.in-Some.ensures.found.1 c.in-Some-split_u16.ensures.found.0
    c.in-Some-split_u16.ensures.found.1 c.in-None.ensures.refused

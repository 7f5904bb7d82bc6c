use Rattle.giop.proofs.HeaderSplits.{reply_found, no_status}
use Rattle.giop.proofs.reading.header.reply_header.Goals as goal

pub returns-in-Some-status_of-clause-found : goal.returns-in-Some-status_of-clause-found
returns-in-Some-status_of-clause-found c = λ value rest b.
    reply_found value c.args.tape.now rest c.in-Some.id c.in-Some.behind.now c.in-Some-split_u32.number
    c.in-Some-split_u32.field-0-1.now c.in-Some-status_of.status b c.in-Some.ensures.found.0 c.in-Some.ensures.found.1
    c.in-Some-split_u32.ensures.found.0 c.in-Some-split_u32.ensures.found.1 c.in-Some-status_of.ensures.found

pub returns-in-None-clause-refused : goal.returns-in-None-clause-refused
returns-in-None-clause-refused c = λ value rest b.
    no_status value c.args.tape.now rest c.in-Some.id c.in-Some.behind.now c.in-Some-split_u32.number
    c.in-Some-split_u32.field-0-1.now b c.in-Some.ensures.found.0 c.in-Some.ensures.found.1
    c.in-Some-split_u32.ensures.found.0 c.in-Some-split_u32.ensures.found.1 c.in-None.ensures.refused

use Rattle.giop.proofs.HeaderSplits.{locate_found}
use Rattle.giop.proofs.reading.header.locate_header.Goals as goal

pub returns-in-Ok-clause-found : goal.returns-in-Ok-clause-found
returns-in-Ok-clause-found c = λ value rest b.
    locate_found value c.args.tape.now rest c.in-Some.id c.in-Some.behind.now c.in-Ok.target c.in-Ok.field-0-1.now b
    c.in-Some.ensures.found.0 c.in-Some.ensures.found.1 c.in-Ok.ensures.found

use Rattle.giop.proofs.Exceptions.{no_completion, no_minor}
use Rattle.giop.proofs.reply_bodies.exception.split.Goals as goal

pub returns-in_default-split_u32-clause-refused : goal.returns-in_default-split_u32-clause-refused
returns-in_default-split_u32-clause-refused c = λ id minor completion x.
    no_minor c.args.tape.now c.in-Some.id.now c.in-Some.behind.now id minor completion x c.in-Some.ensures.found.0
    c.in-Some.ensures.found.1 c.in_default-split_u32.ensures.refused

pub returns-in-None-clause-refused : goal.returns-in-None-clause-refused
returns-in-None-clause-refused c = λ id minor completion x.
    no_completion c.args.tape.now c.in-Some.id.now c.in-Some.behind.now c.in-Some-split_u32.minor
    c.in-Some-split_u32.behind.now id minor completion x c.in-Some.ensures.found.0 c.in-Some.ensures.found.1
    c.in-Some-split_u32.ensures.found.0 c.in-Some-split_u32.ensures.found.1 c.in-None.ensures.refused

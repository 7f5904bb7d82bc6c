use Rattle.giop.proofs.TargetSplits.{key_found, no_key}
use Rattle.giop.proofs.reading.target.split_key.Goals as goal

pub returns-in-Some-clause-found : goal.returns-in-Some-clause-found
returns-in-Some-clause-found c = λ target rest b.
    key_found target c.args.tape.now rest c.in-Some.key.now c.in-Some.rest.now b c.in-Some.ensures.found.0
    c.in-Some.ensures.found.1

pub returns-in-None-clause-refused : goal.returns-in-None-clause-refused
returns-in-None-clause-refused c = λ target rest b. no_key target c.args.tape.now rest b c.in-None.ensures.refused

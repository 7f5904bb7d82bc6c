use Rattle.giop_types.specs.TapeParts.{pair_of}
use Rattle.giop.proofs.TargetSplits.{profile_found, no_profile}
use Rattle.giop.proofs.reading.target.split_profile.Goals as goal

pub returns-in-Some-clause-found : goal.returns-in-Some-clause-found
returns-in-Some-clause-found c = λ target rest b.
    profile_found target c.args.tape.now rest (pair_of c.in-Some.profile) c.in-Some.rest.now b
    c.in-Some.ensures.found.0 c.in-Some.ensures.found.1

pub returns-in-None-clause-refused : goal.returns-in-None-clause-refused
returns-in-None-clause-refused c = λ target rest b. no_profile target c.args.tape.now rest b c.in-None.ensures.refused

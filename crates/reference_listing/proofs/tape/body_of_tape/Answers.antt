use Rattle.reference_texts.proofs.ListLaws.{reading_weaker}
use Rattle.reference_listing.proofs.Splits.{no_components}
use Rattle.reference_listing.proofs.tape.body_of_tape.Goals as goal

pub returns-in-Err-clause-refused : goal.returns-in-Err-clause-refused
returns-in-Err-clause-refused c =
    let address = c.in-Some-split_address.address in
    reading_weaker c.in-Err.fault _ _
    (λ none body is. no_components c.args.later c.args.tape.now body c.in-Some.major c.in-Some.minor
    c.in-Some.behind.now
    address.host.now address.port address.key.now c.in-Some-split_address.rest.now is c.in-Some.ensures.found.0
    c.in-Some.ensures.found.1 c.in-Some.ensures.found.2 c.in-Some-split_address.ensures.found none)
    c.in-Err.ensures.refused

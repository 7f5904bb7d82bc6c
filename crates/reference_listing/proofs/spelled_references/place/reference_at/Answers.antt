use Rattle.std.proofs.Common.{rules}
use Rattle.reference_texts.specs.Views.{place_of}
use Rattle.reference_listing.proofs.Faults.{no_reference}
use Rattle.reference_listing.proofs.spelled_references.place.reference_at.Goals as goal

pub returns-in-Err-clause-refused : goal.returns-in-Err-clause-refused
returns-in-Err-clause-refused c =
    no_reference c.in-Err.fault (place_of c.args.location.now) c.as_bytes-host.result.now c.as_slice.result.now
    (search rules) (search rules) c.in-Err.ensures.refused

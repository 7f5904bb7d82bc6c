use Rattle.reference_texts.specs.Views.{place_of}
use Rattle.reference_listing.proofs.Faults.{bad_ior, bad_url}
use Rattle.reference_listing.proofs.Once.{no_place, no_url}
use Rattle.reference_listing.proofs.spelled_references.spelled.of_url.Goals as goal

pub returns-in-Err-BadCorbaloc-clause-refused : goal.returns-in-Err-BadCorbaloc-clause-refused
returns-in-Err-BadCorbaloc-clause-refused c = (
  c.requires,
  no_place c.args.text.now c.requires
      (bad_url c.in-Err-BadCorbaloc.field-0 _ c.in-Err-BadCorbaloc.field-0-is c.in-Err-BadCorbaloc.ensures.refused),
)

pub returns-in-Err-BadIor-clause-refused : goal.returns-in-Err-BadIor-clause-refused
returns-in-Err-BadIor-clause-refused c = (
  c.requires,
  no_url c.args.text.now (place_of c.in-Ok.location) c.requires c.in-Ok.ensures.found
      (bad_ior c.in-Err-BadIor.field-0 _ c.in-Err-BadIor.field-0-is c.in-Err-BadIor.ensures.refused),
)

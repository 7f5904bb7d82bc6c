use Rattle.std.proofs.Common.{◌≡◌, take}
use Rattle.reference_listing.specs.Listings.{rows_of}
use Rattle.call_client.specs.Lines.{all_missed}
use Rattle.call_client.specs.Talks.{IsUnreached}
use Rattle.call_client.proofs.object_calls.reached.call_by.Given as goal

abbrev pub invariant-loop-listed : goal.invariant-loop-listed
invariant-loop-listed g l = record {
  place : l.place ≡ l.listed-index;
  vain : IsUnreached (g.D.Dial.went l.initial.dial) (g.D.Dial.went l.dial)
      (all_missed (rows_of (take l.listed-index l.profiles))) (g.D.Dial.lines l.initial.dial) (g.D.Dial.lines l.dial);
}

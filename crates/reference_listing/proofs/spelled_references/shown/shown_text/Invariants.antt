use Rattle.std.proofs.Common.{◌≡◌, take}
use Rattle.std.specs.String.{string_bytes}
use Rattle.std.specs.List.{flat_map}
use Rattle.reference_listing.specs.Shown.{shown_octet}
use Rattle.reference_listing.proofs.spelled_references.shown.shown_text.Given as goal

abbrev pub invariant-loop-octet : goal.invariant-loop-octet
invariant-loop-octet l = string_bytes l.text ≡ flat_map shown_octet (take l.octet-index l.octets)

use Rattle.std.proofs.Common.{◌≡◌, take}
use Rattle.std.specs.String.{string_bytes}
use Rattle.std.specs.List.{flat_map}
use Rattle.reference_listing.specs.Pieces.{gap_line}
use Rattle.reference_listing.proofs.spelled_references.pieces.all_gaps.Given as goal

abbrev pub invariant-loop-gap : goal.invariant-loop-gap
invariant-loop-gap l = string_bytes l.lines ≡ flat_map (gap_line l.indent) (take l.gap-index l.gaps)

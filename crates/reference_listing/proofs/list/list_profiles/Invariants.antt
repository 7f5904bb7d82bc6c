use Rattle.std.proofs.Common.{take}
use Rattle.reference_texts.specs.References.{owned_pairs}
use Rattle.reference_listing.specs.Listings.{AreRows, rows_of}
use Rattle.reference_listing.proofs.list.list_profiles.Given as goal

abbrev pub invariant-loop-tag : goal.invariant-loop-tag
invariant-loop-tag l = AreRows (owned_pairs (take l.tag-index l.profiles)) (rows_of l.listed.items)

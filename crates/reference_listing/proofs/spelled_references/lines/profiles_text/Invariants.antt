use Rattle.std.proofs.Common.{◌≡◌, take}
use Rattle.std.specs.String.{string_bytes}
use Rattle.reference_texts.specs.References.{owned_pairs}
use Rattle.reference_listing.specs.Lines.{IsProfileText}
use Rattle.reference_listing.specs.Pieces.{AreLines}
use Rattle.reference_listing.proofs.spelled_references.lines.profiles_text.Given as goal

abbrev pub invariant-loop-tag : goal.invariant-loop-tag
invariant-loop-tag l = record {
  number : l.number ≡ l.tag-index;
  lines : AreLines IsProfileText 0 (owned_pairs (take l.tag-index l.profiles)) (string_bytes l.lines);
}

-- A place as contracts see it.
use Rattle.std.specs.Prelude.{option_map}
use Rattle.diagnostic_views.specs.declared.source_places.places.SourceLine.{SourceLine}
use Rattle.diagnostic_views.specs.Places.{PlaceParts}

abbrev pub place_parts : SourceLine → PlaceParts
place_parts place = record { file = option_map (λ name. name.now) place.file; line = place.line }

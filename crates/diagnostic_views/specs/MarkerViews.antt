-- A marker as contracts see it.
use Rattle.std.specs.Prelude.{option_map}
use Rattle.diagnostic_views.specs.declared.source_places.marker.Marker.{Marker}
use Rattle.diagnostic_views.specs.Markers.{MarkerParts}

abbrev pub marker_parts : Marker → MarkerParts
marker_parts marker = record { line = marker.line; file = option_map (λ name. name.now) marker.file }

-- A location as contracts see it.
use Rattle.std.specs.String.{string_bytes}
use Rattle.reference_texts.specs.declared.corbaloc.location.Location.{Location}
use Rattle.reference_texts.specs.Places.{Place}

abbrev pub place_of : Location → Place
place_of location = record { host = string_bytes location.host; port = location.port; key = location.key.items }

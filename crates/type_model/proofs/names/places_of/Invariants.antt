use Rattle.std.proofs.Common.{◌≡◌, map, take}
use Rattle.type_model.specs.inner.Keys.{Differ, place_of}
use Rattle.type_model.proofs.names.places_of.Given as goal

abbrev pub invariant-loop-at : goal.invariant-loop-at
invariant-loop-at l = record {
  places : l.places.items ≡ map place_of (take l.at l.keys);
  differ : Differ l.keys l.at;
}

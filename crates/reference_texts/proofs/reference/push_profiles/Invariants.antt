use Rattle.std.proofs.Common.{◌≡◌, ◌++◌, take}
use Rattle.std.specs.List.{AllByRecursion}
use Rattle.giop_types.specs.TapeParts.{IsTagged, tagged_each}
use Rattle.reference_texts.specs.References.{AreBelow, owned_pairs}
use Rattle.reference_texts.proofs.reference.push_profiles.Given as goal

abbrev pub invariant-loop-tag : goal.invariant-loop-tag
invariant-loop-tag l = record {
  added : l.tape.items ≡ l.initial.tape.items ++ tagged_each (owned_pairs (take l.tag-index l.profiles));
  each : AllByRecursion IsTagged (owned_pairs (take l.tag-index l.profiles));
  octets : AreBelow (owned_pairs (take l.tag-index l.profiles));
}

use Rattle.std.proofs.Common.{◌≡◌, take}
use Rattle.idl_value.specs.View.{trees_of}
use Rattle.giop_types.specs.Fields.{tagged_trees}
use Rattle.reference_texts.specs.References.{owned_pairs}
use Rattle.value_text.proofs.reference_values.reading.profile_values.Given as goal

abbrev pub invariant-loop-tag : goal.invariant-loop-tag
invariant-loop-tag l = trees_of l.values.items ≡ tagged_trees (owned_pairs (take l.tag-index l.profiles))

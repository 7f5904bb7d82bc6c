use Rattle.std.proofs.Common.{◌≡◌, take}
use Rattle.giop_types.specs.TapeParts.{pairs_of}
use Rattle.reference_texts.specs.References.{owned_pairs}
use Rattle.reference_texts.proofs.reference.owned.Given as goal

abbrev pub invariant-loop-profile : goal.invariant-loop-profile
invariant-loop-profile l = owned_pairs l.all.items ≡ pairs_of (take l.profile-index l.profiles)

-- How the object of a request is named to its server.
use Rattle.type_graph.specs.Value.{Tree}
use Rattle.giop_types.specs.TapeParts.{pair_of}
use Rattle.reference_texts.specs.References.{owned_pairs}
use Rattle.giop_messages.specs.Headers.{key_target, profile_target, reference_target}
use Rattle.giop.specs.declared.writing.target.Addressed.{Addressed}
use Rattle.giop.specs.declared.writing.target.Addressed.TheVariants.{Key, Profile, Reference}

-- the target as a value
abbrev pub target_tree : Addressed → Tree
target_tree (Key key) = key_target key.now
target_tree (Profile profile) = profile_target (pair_of profile)
target_tree (Reference selected reference) =
    reference_target selected reference.now.type_id.items (owned_pairs reference.now.profiles.items)

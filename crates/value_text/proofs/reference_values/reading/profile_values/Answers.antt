use Rattle.std.proofs.Common.{◌≡◌, ◌++◌, ◌∷◌, [], ◌∙◌, ap, rules, ℕ, List}
use Rattle.giop_types.specs.Fields.{tagged_tree}
use Rattle.value_text.proofs.OctetParts.{tagged_pushed}
use Rattle.value_text.proofs.reference_values.reading.profile_values.Goals as goal

pub loop-tag-preserved : goal.loop-tag-preserved
loop-tag-preserved c =
    let one = c.loop-tag-item.result in
    let values = c.loop-tag.values.items in
    let value = c.in_ok-profile_value.field-0 in
    let pushed : c.push.new.self.items ≡ values ++ value ∷ [] = search rules in
    tagged_pushed values c.push.new.self.items value c.args.profiles.now c.loop-tag.tag-index one c.loop-tag-test.true
    c.loop-tag-item.is pushed c.loop-tag.invariant
    (c.in_ok-profile_value.ensures ∙ ap (λ (octets : List ℕ). tagged_tree (one.0, octets)) c.as_slice.ensures.value)

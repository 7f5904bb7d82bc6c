use Rattle.std.proofs.Common.{◌≡◌, ◌++◌, ◌∷◌, [], rules}
use Rattle.value_text.proofs.OctetParts.{octet_pushed}
use Rattle.value_text.proofs.reference_values.octets.octet_values.Goals as goal

pub loop-octet-preserved : goal.loop-octet-preserved
loop-octet-preserved c =
    let values = c.loop-octet.values.items in
    let value = c.octet_value.result in
    let pushed : c.push.new.self.items ≡ values ++ value ∷ [] = search rules in
    octet_pushed values c.push.new.self.items value c.args.octets.now c.loop-octet.octet-index c.loop-octet-test.true
    pushed c.loop-octet.invariant c.octet_value.ensures

use Rattle.std.proofs.Common.{◌≡◌, ◌++◌, ◌∙◌, ap₂, rules}
use Rattle.value_text.proofs.OctetParts.{counted_long}
use Rattle.value_text.proofs.reference_values.printing.push_octets.Goals as goal

pub returns : goal.returns
returns c =
    let long = counted_long c.args.out.now.items c.push_long.new.out.items c.long_of_count.result c.args.values.now
    c.in_ok-push_long.ensures c.long_of_count.ensures in
    let added : c.extend_from_slice.new.self.items ≡ c.push_long.new.out.items ++ c.as_slice.result.now =
    search rules in
    added ∙ ap₂ (λ a b. a ++ b) long (c.as_slice.ensures.value ∙ c.in_ok-octets.ensures)

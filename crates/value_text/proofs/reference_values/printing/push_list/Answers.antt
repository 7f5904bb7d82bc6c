use Rattle.std.proofs.Common.{◌∙◌, ap}
use Rattle.std.proofs.lemmas.Result.{on_ok_weaker}
use Rattle.idl_value.specs.View.{trees_of}
use Rattle.value_text.specs.Printed.{with_each}
use Rattle.value_text.proofs.OctetParts.{counted_long}
use Rattle.value_text.proofs.reference_values.printing.push_list.Goals as goal

pub returns : goal.returns
returns c =
    let profiles = c.args.profiles.now in
    let long = counted_long c.args.out.now.items c.push_long.new.out.items c.long_of_count.result profiles
    c.in_ok-push_long.ensures c.long_of_count.ensures in
    on_ok_weaker c.push_each.result (λ added. added ∙ ap (λ l. with_each l (trees_of profiles)) long)
    c.push_each.ensures

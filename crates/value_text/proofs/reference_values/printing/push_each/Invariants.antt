use Rattle.std.proofs.Common.{◌≡◌, drop}
use Rattle.idl_value.specs.View.{trees_of}
use Rattle.value_text.specs.Printed.{with_each}
use Rattle.value_text.proofs.reference_values.printing.push_each.Given as goal

abbrev pub invariant-loop-profile : goal.invariant-loop-profile
invariant-loop-profile l = with_each l.out.items (trees_of (drop l.profile-index l.profiles))
    ≡ with_each l.fn.out.items (trees_of l.profiles)

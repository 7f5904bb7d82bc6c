use Rattle.std.proofs.Common.{◌≡◌, drop, Some}
use Rattle.std.specs.Fmt.{◌++?◌}
use Rattle.table_file.specs.Octets.{spelled_each}
use Rattle.table_file.proofs.lists.write_each.Given as goal

abbrev pub invariant-items : goal.invariant-items
invariant-items g l = Some l.out.items ++? spelled_each g.T.Part.spelled (drop l.item-index l.items)
    ≡ Some l.initial.out.items ++? spelled_each g.T.Part.spelled l.items

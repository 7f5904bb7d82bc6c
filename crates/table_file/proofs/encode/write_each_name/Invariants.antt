use Rattle.std.proofs.Common.{◌≡◌, drop, Some}
use Rattle.std.specs.Fmt.{◌++?◌}
use Rattle.table_file.specs.Octets.{spelled_each}
use Rattle.table_file.specs.Spelling.{spelled_name}
use Rattle.table_file.proofs.encode.write_each_name.Given as goal

abbrev pub invariant-names : goal.invariant-names
invariant-names l = Some l.out.items ++? spelled_each spelled_name (drop l.place l.names)
    ≡ Some l.initial.out.items ++? spelled_each spelled_name l.names

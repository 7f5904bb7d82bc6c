use Rattle.std.proofs.Common.{◌≡◌, ◌<◌, drop, length, slice_get}
use Rattle.std.specs.List.{fold}
use Rattle.name_table.specs.Entry.{bases_in}
use Rattle.lowered_operations.specs.Interfaces.{inherited, with_base}
use Rattle.lowered_operations.proofs.interfaces.inherited.Given as goal

abbrev pub invariant-loop-k : goal.invariant-loop-k
invariant-loop-k l = record {
  there : l.entry < length l.names.entries;
  told : fold (with_base l.table) l.places.keys (drop l.k (bases_in (slice_get l.names.entries l.entry)))
      ≡ inherited l.table (bases_in (slice_get l.names.entries l.entry));
}

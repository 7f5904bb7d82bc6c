use Rattle.std.proofs.Common.{◌≡◌, ◌<◌, drop, length, slice_get}
use Rattle.std.specs.List.{fold}
use Rattle.name_table.specs.Entry.{bases_in}
use Rattle.lowered_operations.specs.Interfaces.{all_bases, with_base_and_above}
use Rattle.lowered_operations.proofs.interfaces.all_bases.Given as goal

abbrev pub invariant-loop-place : goal.invariant-loop-place
invariant-loop-place l = record {
  there : l.entry < length l.names.entries;
  told : fold (with_base_and_above l.table) l.all.keys (drop l.place (bases_in (slice_get l.names.entries l.entry)))
      ≡ all_bases l.table (bases_in (slice_get l.names.entries l.entry));
}

use Rattle.std.proofs.Common.{◌≡◌, ◌≤◌, ◌++◌, drop, length, Ok}
use Rattle.scoped_names.specs.Reading.{◌>>◌}
use Rattle.lowered_types.specs.SimpleTypes.{sizes_read}
use Rattle.lowered_types.proofs.readings.read_sizes.Given as goal

abbrev pub invariant-loop-size : goal.invariant-loop-size
invariant-loop-size l = record {
  inside : l.scope.0 ≤ length l.names.entries;
  told : (sizes_read l.names.entries l.scope.0 (drop l.size-index l.sizes) >> λ ns. Ok (l.counts.items ++ ns))
      ≡ sizes_read l.names.entries l.scope.0 l.sizes;
}

use Rattle.std.proofs.Common.{◌≡◌, ◌≤◌, drop, length, Ok}
use Rattle.lowered_types.specs.Lowered.{already}
use Rattle.lowered_types.specs.SimpleTypes.{arrays}
use Rattle.lowered_types.proofs.table.TypeTable.add_arrays.Given as goal

-- the arrays of the sizes behind are lowered
abbrev pub invariant-loop-left : goal.invariant-loop-left
invariant-loop-left l = record {
  within : l.left ≤ length l.counts;
  told : arrays (already l.fn.self l.elem) l.at (drop l.left l.counts) ≡ Ok (already l.self l.number);
}

abbrev pub decreases-loop-left : goal.decreases-loop-left
decreases-loop-left l = l.left

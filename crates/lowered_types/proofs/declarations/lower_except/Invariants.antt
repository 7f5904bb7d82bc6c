use Rattle.std.proofs.Common.{◌≡◌, ◌≤◌, drop, length}
use Rattle.lowered_types.specs.Faults.{each}
use Rattle.lowered_types.specs.Types.{with_members_of, with_member}
use Rattle.lowered_types.proofs.declarations.lower_except.Given as goal

abbrev pub invariant-loop-member : goal.invariant-loop-member
invariant-loop-member l = record {
  inside : l.inside.0 ≤ length l.names.entries;
  told : each (with_member l.names.entries l.inside.0) (with_members_of l.table l.members)
      (drop l.member-index l.member-items)
      ≡ each (with_member l.names.entries l.inside.0) (with_members_of l.initial.table l.initial.members)
      l.member-items;
}

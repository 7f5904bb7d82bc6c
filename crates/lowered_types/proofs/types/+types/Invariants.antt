use Rattle.std.proofs.Common.{◌≡◌, ◌≤◌, drop, length}
use Rattle.lowered_types.specs.Faults.{each}
use Rattle.lowered_types.specs.Types.{cases_of, with_members_of, with_case_of, with_member}
use Rattle.lowered_types.proofs.types.+types.Given as goal

abbrev pub invariant-lower_struct-loop-member : goal.invariant-lower_struct-loop-member
invariant-lower_struct-loop-member l = record {
  inside : l.inside.0 ≤ length l.names.entries;
  told : each (with_member l.names.entries l.inside.0) (with_members_of l.table l.members)
      (drop l.member-index l.member-items)
      ≡ each (with_member l.names.entries l.inside.0) (with_members_of l.initial.table l.initial.members)
      l.member-items;
}

abbrev pub invariant-lower_union-loop-case : goal.invariant-lower_union-loop-case
invariant-lower_union-loop-case l = record {
  inside : l.inside.0 ≤ length l.names.entries;
  told : each (with_case_of l.names.entries l.inside.0 l.switch) (cases_of l.table l.arms)
      (drop l.case-index l.case-items)
      ≡ each (with_case_of l.names.entries l.inside.0 l.switch) (cases_of l.initial.table l.initial.arms) l.case-items;
}

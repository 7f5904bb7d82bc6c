use Rattle.std.proofs.Common.{◌≡◌, ◌++◌, length}
use Rattle.std.specs.List.{list_any}
use Rattle.program_output.proofs.blocks.push_each.Given as goal

abbrev pub invariant-loop-octet : goal.invariant-loop-octet
invariant-loop-octet g l = record {
  found : list_any g.S.Sought.is_sought l.rest ≡ list_any g.S.Sought.is_sought l.octets;
  pushed : l.out ++ l.rest ≡ l.initial.out ++ l.octets;
}

abbrev pub decreases-loop-octet : goal.decreases-loop-octet
decreases-loop-octet g l = length l.rest

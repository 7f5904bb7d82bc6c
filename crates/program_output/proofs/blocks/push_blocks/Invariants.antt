use Rattle.std.proofs.Common.{◌≡◌, ◌++◌, length}
use Rattle.std.specs.List.{list_any}
use Rattle.program_output.proofs.blocks.push_blocks.Given as goal

abbrev pub invariant-loop-rest : goal.invariant-loop-rest
invariant-loop-rest g l = record {
  found : list_any g.S.Sought.is_sought l.rest ≡ list_any g.S.Sought.is_sought l.octets;
  pushed : l.out ++ l.rest ≡ l.initial.out ++ l.octets;
}

abbrev pub decreases-loop-rest : goal.decreases-loop-rest
decreases-loop-rest g l = length l.rest

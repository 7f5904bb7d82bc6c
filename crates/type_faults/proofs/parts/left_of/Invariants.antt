use Rattle.std.proofs.Common.{◌≡◌, ◌≤◌, ◌++◌, drop, map}
use Rattle.idl_lexer.specs.Tokens.{parts_of}
use Rattle.type_faults.specs.Parts.{left, without}
use Rattle.type_faults.specs.inner.Searched.{depth_of}
use Rattle.type_faults.proofs.parts.left_of.Given as goal

abbrev pub invariant-loop-token : goal.invariant-loop-token
invariant-loop-token l = record {
  said : map parts_of l.left.items ++ without l.kept l.refused l.scan (map parts_of (drop l.token-index l.tokens))
      ≡ left l.kept l.refused l.tokens;
  depth : depth_of l.scan.mode ≤ l.token-index;
  parts : l.scan.parts ≤ l.token-index;
}

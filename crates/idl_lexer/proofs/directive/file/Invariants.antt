use Rattle.std.proofs.Common.{◌-◌, List, ℕ, length}
use Rattle.idl_lexer.specs.Directives.{IsFile, IsFileText}
use Rattle.idl_lexer.proofs.Files.{IsRest}
use Rattle.idl_lexer.proofs.directive.file.Given as goal

abbrev pub invariant-loop-at : goal.invariant-loop-at
invariant-loop-at l = record {
  read : IsFileText l.octets 1 l.at;
  left : (rest : List ℕ) (f : IsFile l.octets rest)
      → IsRest l.octets f.last l.at;
}

abbrev pub decreases-loop-at : goal.decreases-loop-at
decreases-loop-at l = length l.octets - l.at

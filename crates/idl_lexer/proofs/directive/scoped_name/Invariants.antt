use Rattle.std.proofs.Common.{[], length}
use Rattle.idl_lexer.specs.Directives.{IsScopedName}
use Rattle.idl_lexer.proofs.ScopedNames.{IsTail}
use Rattle.idl_lexer.proofs.directive.scoped_name.Given as goal

abbrev pub invariant-loop-inner : goal.invariant-loop-inner
invariant-loop-inner l = record { read : IsScopedName l.octets l.rest; left : IsScopedName l.octets [] → IsTail l.rest }

abbrev pub decreases-loop-inner : goal.decreases-loop-inner
decreases-loop-inner l = length l.rest

use Rattle.std.proofs.Common.{◌≡◌, drop}
use Rattle.scoped_names.specs.inner.StateKept.{sought}
use Rattle.scoped_names.proofs.members.seek.Given as goal

abbrev pub invariant-loop-identifier : goal.invariant-loop-identifier
invariant-loop-identifier l = sought l.identifiers l.name ≡ sought (drop l.identifier-index l.identifiers) l.name

use Rattle.table_file.specs.Octets.{spelled_ascii}
use Rattle.table_file.proofs.PassedLists.{PassedSoFar}
use Rattle.table_file.proofs.texts.pass_ascii.Given as goal

abbrev pub invariant-octets : goal.invariant-octets
invariant-octets l = PassedSoFar spelled_ascii l.place l.initial.tail l.tail

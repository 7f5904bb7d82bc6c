use Rattle.std.proofs.Common.{◌≡◌, None}
use Rattle.position_checker.specs.Verdict.{names_fault}
use Rattle.position_checker.proofs.RouteLaws.{RoutesUpTo}
use Rattle.position_checker.proofs.routes.routes_of.Given as goal

abbrev pub invariant-loop-place : goal.invariant-loop-place
invariant-loop-place l = RoutesUpTo l.table l.place l.routes.items × (names_fault l.table l.place ≡ None)

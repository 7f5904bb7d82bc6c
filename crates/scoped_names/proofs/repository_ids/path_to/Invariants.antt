use Rattle.std.proofs.Common.{◌≡◌, ◌≤◌, ◌++◌, length, map, reverse}
use Rattle.scoped_names.specs.RepositoryIds.{path, names_to}
use Rattle.scoped_names.proofs.repository_ids.path_to.Given as goal

-- the names of the scopes that are left, and those that were met, are the whole path
abbrev pub invariant-loop-outer : goal.invariant-loop-outer
invariant-loop-outer l = record {
  within : l.scope.0 ≤ length l.table;
  whole : names_to l.table l.scope.0 l.scope.0 ++ map (λ n. n.now) (reverse l.names.items) ≡ path l.table l.entry;
}

abbrev pub decreases-loop-outer : goal.decreases-loop-outer
decreases-loop-outer l = l.scope.0

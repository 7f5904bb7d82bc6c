use Rattle.std.proofs.Common.{◌≤◌, ℕ, ◌<◌, get_or}
use Rattle.type_paths.specs.Sites.{nowhere}
use Rattle.type_paths.proofs.sites.NodeSites.greatest.Given as goal

abbrev pub invariant-loop-at : goal.invariant-loop-at
invariant-loop-at l = record {
  own : l.self.at.token ≤ l.greatest;
  held : (place : ℕ) → place < l.at-index → (get_or l.self.held place nowhere).token ≤ l.greatest;
}

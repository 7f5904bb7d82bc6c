use Rattle.std.proofs.Common.{◌≡◌, ◌<◌, ℕ, get_or}
use Rattle.type_paths.specs.Sites.{nowhere}
use Rattle.type_paths.proofs.sites.NodeSites.known.Given as goal

abbrev pub invariant-loop-at : goal.invariant-loop-at
invariant-loop-at l = (k : ℕ) → k < l.at-index → (get_or l.self.held k nowhere).token ≡ l.token → ⊥

use Rattle.std.proofs.Common.{◌≡◌, ◌<◌, ◌≤◌, ℕ, Some, slice_get}
use Rattle.type_paths.specs.Sites.{Sites, held_token}
use Rattle.type_paths.proofs.sited.Sited.greatest.Given as goal

abbrev pub invariant-loop-sites : goal.invariant-loop-sites
invariant-loop-sites l = (k place : ℕ) (sites : Sites) → k < l.sites-index → slice_get l.self.sites k ≡ Some sites
    → held_token sites place ≤ l.greatest

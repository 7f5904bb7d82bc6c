use Rattle.std.proofs.Common.{◌≡◌, ◌<◌, ℕ, None, get_or}
use Rattle.type_paths.specs.Sites.{known_of}
use Rattle.type_paths.proofs.SiteLaws.{no_sites}
use Rattle.type_paths.proofs.sited.Sited.line_of.Given as goal

abbrev pub invariant-loop-sites : goal.invariant-loop-sites
invariant-loop-sites l = (k : ℕ) → k < l.sites-index → known_of l.token (get_or l.self.sites k no_sites) ≡ None

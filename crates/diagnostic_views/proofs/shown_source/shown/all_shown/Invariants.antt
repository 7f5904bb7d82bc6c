use Rattle.std.proofs.Common.{◌≡◌, ◌++◌, drop}
use Rattle.diagnostic_views.specs.Shown.{all_shown}
use Rattle.diagnostic_views.proofs.shown_source.shown.all_shown.Given as goal

abbrev pub invariant-loop-octet : goal.invariant-loop-octet
invariant-loop-octet l = l.text.items ++ all_shown (drop l.octet-index l.octets) ≡ all_shown l.octets

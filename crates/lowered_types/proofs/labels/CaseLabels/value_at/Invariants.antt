use Rattle.std.proofs.Common.{◌≡◌, drop}
use Rattle.lowered_types.specs.Labels.{value_at}
use Rattle.lowered_types.proofs.labels.CaseLabels.value_at.Given as goal

abbrev pub invariant-loop-label : goal.invariant-loop-label
invariant-loop-label l = value_at (drop l.label-index l.label-items) l.value ≡ value_at l.self.values l.value

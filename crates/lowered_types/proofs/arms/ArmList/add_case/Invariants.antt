use Rattle.std.proofs.Common.{◌≡◌, drop}
use Rattle.lowered_types.specs.Labels.{with_arms}
use Rattle.lowered_types.proofs.arms.ArmList.add_case.Given as goal

abbrev pub invariant-loop-label : goal.invariant-loop-label
invariant-loop-label l = record {
  arms : with_arms l.self.arms l.number l.at (drop l.label-index l.label-items)
      ≡ with_arms l.fn.self.arms l.number l.at l.labels.values;
  default : l.self.default ≡ l.fn.self.default;
  names : l.self.names ≡ l.fn.self.names;
}

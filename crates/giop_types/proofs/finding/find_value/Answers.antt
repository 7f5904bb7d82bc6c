use Rattle.program_runner.proofs.Refusals.{not_for_memory}
use Rattle.giop_types.proofs.finding.find_value.Goals as goal

pub returns-in_default : goal.returns-in_default
returns-in_default c = record {
  found = tt;
  within = tt;
  none = not_for_memory c.in-Err.fault _ c.in_default.not-NoMemory c.in-Err.ensures.refused;
}

use Rattle.type_faults.proofs.PragmaText.{pragma_form}
use Rattle.type_faults.proofs.parts.seen_or_pragma.Goals as goal

pub invariant_of-result : goal.invariant_of-result
invariant_of-result c = record { form = pragma_form }

use Rattle.value_text.proofs.Spelled.{printed_text, printed_spelled}
use Rattle.value_text.proofs.reference_values.laws.a_printed_reference_is_spelled.Goals as goal

pub returns-clause-text : goal.returns-clause-text
returns-clause-text c = λ members depth fits. printed_text members depth fits

pub returns-clause-spelled : goal.returns-clause-spelled
returns-clause-spelled c = λ members depth fits. printed_spelled members depth fits

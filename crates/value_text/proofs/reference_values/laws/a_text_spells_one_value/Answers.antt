use Rattle.value_text.proofs.Spelled.{one_value}
use Rattle.value_text.proofs.reference_values.laws.a_text_spells_one_value.Goals as goal

pub returns : goal.returns
returns c = λ text value other a b. one_value text value other a b

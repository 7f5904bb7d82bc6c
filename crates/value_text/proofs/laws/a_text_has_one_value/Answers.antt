use Rattle.value_text.proofs.OneValue.{stands_for_one}
use Rattle.value_text.proofs.laws.a_text_has_one_value.Goals as goal

pub returns : goal.returns
returns c = stands_for_one

use Rattle.reference_texts.proofs.TextLaws.{spelled_once}
use Rattle.reference_texts.proofs.laws.text_spells_one_reference.Goals as goal

pub returns : goal.returns
returns c = λ text a b h k. spelled_once text a b h k

use Rattle.type_model.specs.PartNamesNames.{names_at}
use Rattle.type_graph.specs.Value.{node_at}
use Rattle.value_text.specs.Texts.{text_at}
use Rattle.value_text.proofs.PrintedTexts.{says}
use Rattle.value_text.proofs.OneValue.{stands_for_one}
use Rattle.value_text.proofs.laws.a_printed_text_has_its_value.Goals as goal

pub returns : goal.returns
returns c = λ names graph rules apart number value other fits stands.
    stands_for_one names graph rules apart number other value (text_at names graph number value) stands
    (record { fits = fits; says = says names graph (names_at names number) (node_at graph number) value 64 fits })

use Rattle.idl_compiler.proofs.OneShape.{same_model}
use Rattle.idl_compiler.proofs.laws.model_of_text_is_one.Goals as goal

pub returns : goal.returns
returns c = λ source definitions others one other text is text' is'.
    let shape = c.definitions_are_one.ensures source definitions others text text' in
    c.model_is_one.ensures definitions one other is
    (same_model definitions others other (c.names_are_of_the_shape.ensures definitions others shape)
    (λ entries. c.types_are_of_the_shape.ensures entries definitions others shape) is')

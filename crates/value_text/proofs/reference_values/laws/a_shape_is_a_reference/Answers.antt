use Rattle.value_text.proofs.Alike.{to_object, from_object}
use Rattle.value_text.proofs.reference_values.laws.a_shape_is_a_reference.Goals as goal

pub returns : goal.returns
returns c = λ graph members is values depth.
    (to_object graph members is values depth, from_object graph members is values depth)

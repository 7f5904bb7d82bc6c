use Rattle.type_faults.proofs.Refused.{own_fault}
use Rattle.type_faults.proofs.laws.first_is_told.Goals as goal

pub returns : goal.returns
returns c = λ tokens definitions names part parts spelled named are.
    own_fault c.spec_is_one.ensures c.names_are_of_the_shape.ensures c.types_are_of_the_shape.ensures
    tokens definitions names part.1 spelled named are.0.told

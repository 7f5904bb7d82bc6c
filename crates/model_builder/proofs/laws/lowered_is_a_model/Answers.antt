use Rattle.model_builder.proofs.RightModel.{own_of}
use Rattle.model_builder.proofs.laws.lowered_is_a_model.Goals as goal

pub returns : goal.returns
returns c = λ spec names d own told shallow.
    let r = own_of spec names d (record { own = own; told = told }) in
    r.model (r.graph shallow)

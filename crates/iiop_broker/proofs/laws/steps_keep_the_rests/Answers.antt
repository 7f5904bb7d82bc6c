use Rattle.broker_answers.specs.Servants.{acts}
use Rattle.broker_answers.specs.Serving.{Moves, Serves}
use Rattle.iiop_broker.proofs.Rests.{is_talked}
use Rattle.iiop_broker.proofs.laws.steps_keep_the_rests.Goals as goal

pub returns : goal.returns
returns g c = λ served servant said after h.
    let acting = acts g.S.Servant.says g.S.Servant.after in
    is_talked (Serves acting served) (Moves acting served) servant said after h

use Rattle.std.proofs.Common.{[], arith}
use Rattle.broker_answers.specs.Talk.{rests, world}
use Rattle.broker_answers.proofs.SameTalk.{follows_few}
use Rattle.broker_answers.specs.Servants.{acts}
use Rattle.broker_answers.specs.Serving.{Moves, Serves}
use Rattle.iiop_broker.proofs.laws.connections_are_few.Goals as goal

pub returns : goal.returns
returns g c = λ served servant after there said h.
    let acting = acts g.S.Servant.says g.S.Servant.after in
    follows_few rests (Serves acting served) (Moves acting served) said (world servant []) (world after there) h
    (omega arith)

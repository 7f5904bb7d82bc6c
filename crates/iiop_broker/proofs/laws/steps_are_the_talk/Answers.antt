use Rattle.broker_answers.specs.Talk.{histories, rests}
use Rattle.broker_answers.proofs.SameTalk.{IsLeft, histories_alike, rests_alike, says_same}
use Rattle.broker_answers.specs.Servants.{acts}
use Rattle.broker_answers.specs.Serving.{Moves, Serves}
use Rattle.iiop_broker.proofs.laws.steps_are_the_talk.Goals as goal

pub returns : goal.returns
returns g c = λ served servant after said.
    let acting = acts g.S.Servant.says g.S.Servant.after in (
      says_same rests histories (λ stream h. IsLeft h stream) rests_alike (Serves acting served) (Moves acting served)
          servant said after,
      says_same histories rests IsLeft histories_alike (Serves acting served) (Moves acting served) servant said after,
    )

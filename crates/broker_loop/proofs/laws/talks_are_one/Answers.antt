use Rattle.broker_answers.specs.Servants.{acts}
use Rattle.broker_loop.proofs.OneTalk.{talks_once}
use Rattle.broker_loop.proofs.laws.talks_are_one.Goals as goal

pub returns : goal.returns
returns g c = λ served rules before one other said more same.
    talks_once (acts g.S.Servant.says g.S.Servant.after) served rules.graph before one other said more same

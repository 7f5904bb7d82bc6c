use Rattle.broker_answers.specs.Servants.{acts}
use Rattle.broker_answers.proofs.OneAnswer.{serves_once}
use Rattle.broker_answers.proofs.laws.messages_have_one_answer.Goals as goal

pub returns : goal.returns
returns g c = λ served rules raws before one other octets more closed shut.
    serves_once (acts g.S.Servant.says g.S.Servant.after) served rules.graph raws before octets more closed shut one
    other

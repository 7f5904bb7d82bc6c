use Rattle.broker_answers.proofs.Histories.{says_last_set}
use Rattle.broker_answers.proofs.attribute_keeper.laws.gets_answer_the_last_set.Goals as goal

pub returns : goal.returns
returns c = says_last_set

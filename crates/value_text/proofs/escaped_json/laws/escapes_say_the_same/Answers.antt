use Rattle.value_text.proofs.Said.{says_the_same}
use Rattle.value_text.proofs.escaped_json.laws.escapes_say_the_same.Goals as goal

pub returns : goal.returns
returns c = says_the_same

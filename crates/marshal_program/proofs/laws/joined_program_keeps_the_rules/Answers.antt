use Rattle.marshal_program.proofs.JoinedRules.{joined_is_program}
use Rattle.marshal_program.proofs.laws.joined_program_keeps_the_rules.Goals as goal

pub returns : goal.returns
returns c = joined_is_program

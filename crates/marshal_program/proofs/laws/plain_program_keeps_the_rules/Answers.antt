use Rattle.marshal_program.proofs.PlainRules.{plain_is_program}
use Rattle.marshal_program.proofs.laws.plain_program_keeps_the_rules.Goals as goal

pub returns : goal.returns
returns c = plain_is_program

use Rattle.routine_checker.proofs.PlainPasses.{plain_passes, plain_named}
use Rattle.routine_checker.proofs.laws.plain_program_is_accepted.Goals as goal

pub returns : goal.returns
returns c = record { routines = plain_passes; names = plain_named }

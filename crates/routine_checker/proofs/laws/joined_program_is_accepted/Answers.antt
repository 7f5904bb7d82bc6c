use Rattle.routine_checker.proofs.JoinedPasses.{joined_passes, joined_named}
use Rattle.marshal_program.proofs.JoinedPlaces.{joined_serves}
use Rattle.routine_checker.proofs.laws.joined_program_is_accepted.Goals as goal

pub returns : goal.returns
returns c = record { routines = joined_passes; names = joined_named; serves = joined_serves }

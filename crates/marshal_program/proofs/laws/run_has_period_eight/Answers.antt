use Rattle.marshal_program.proofs.RunLaws.{runs_moves}
use Rattle.marshal_program.proofs.laws.run_has_period_eight.Goals as goal

pub returns : goal.returns
returns c = λ program format depth routine p q tape octets e. (runs_moves program format depth routine).at p q tape
    octets e

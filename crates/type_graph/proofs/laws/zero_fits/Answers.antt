use Rattle.type_graph.proofs.HeldEach.{shallow_all}
use Rattle.type_graph.proofs.ZeroLaws.{takes_zero, zero_fits}
use Rattle.type_graph.proofs.laws.zero_fits.Goals as goal

pub returns : goal.returns
returns c = λ graph rules number depth deep. zero_fits graph (takes_zero graph rules) depth deep 64 number
    (shallow_all graph rules number)

use Rattle.type_graph.specs.Comparison.{Anywhere}
use Rattle.marshal_program.proofs.RunLaws.{runs_opened}
use Rattle.marshal_program.proofs.laws.run_is_chain_of_code.Goals as goal

pub returns : goal.returns
returns c = λ program format depth routine p tape octets.
    let same = runs_opened {S = Anywhere} program format depth routine in
    (same.to p tape octets tt, same.from p tape octets tt)

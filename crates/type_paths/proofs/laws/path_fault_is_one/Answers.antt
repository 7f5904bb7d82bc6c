use Rattle.type_paths.proofs.FaultLaws.{fault_one}
use Rattle.type_paths.proofs.laws.path_fault_is_one.Goals as goal

pub returns : goal.returns
returns c = λ nodes first sites one other h k. fault_one (record { nodes = nodes; first = first; sites = sites }) one
    other h k

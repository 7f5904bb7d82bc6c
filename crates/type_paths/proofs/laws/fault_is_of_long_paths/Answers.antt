use Rattle.type_paths.proofs.FaultLaws.{fault_deep}
use Rattle.type_paths.proofs.laws.fault_is_of_long_paths.Goals as goal

pub returns : goal.returns
returns c = λ nodes first sites fault h all. fault_deep (record { nodes = nodes; first = first; sites = sites }) fault h
    all

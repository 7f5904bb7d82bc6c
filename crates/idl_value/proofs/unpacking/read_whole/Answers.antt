use Rattle.idl_value.proofs.UnpackLaws.{no_number}
use Rattle.idl_value.proofs.unpacking.read_whole.Goals as goal

pub returns-in_default-clause-refused : goal.returns-in_default-clause-refused
returns-in_default-clause-refused c = λ graph depth node_rules numeric.
    no_number graph c.args.node.now depth c.args.tape.now numeric (c.in_default.ensures.refused graph node_rules)

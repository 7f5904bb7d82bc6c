use Rattle.type_graph.proofs.WrittenRead.{written_is_read}
use Rattle.type_graph.proofs.laws.written_is_read.Goals as goal

pub returns : goal.returns
returns c = λ graph order depth number p tape octets. written_is_read graph order depth number p tape octets

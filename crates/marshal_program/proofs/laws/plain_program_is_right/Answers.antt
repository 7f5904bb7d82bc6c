use Rattle.marshal_program.proofs.PlainRight.{plain_graph, plain_right}
use Rattle.marshal_program.proofs.laws.plain_program_is_right.Goals as goal

pub returns : goal.returns
returns c = record {
  right = λ graph good format depth number p tape octets lt.
      let same = plain_right graph format good depth number lt in
      (same.to p tape octets tt, same.from p tape octets tt);
  every_graph = plain_graph;
}

use Rattle.type_graph.proofs.shape.joined.Goals as goal

pub returns : goal.returns
returns c = λ leaves more n m a b. record {
  run = c.joined_run.ensures leaves more a.run b.run;
  size = c.joined_size.ensures n m a.size b.size;
}

use Rattle.std.proofs.Common.{ℕ, replicate, sum_by, sym, subst}
use Rattle.std.proofs.lemmas.List.Folds.{sum_by-replicate}
use Rattle.std.specs.List.{flat_map}
use Rattle.type_graph.specs.inner.Shapes.{IsShape, IsSize}
use Rattle.type_graph.proofs.shape.repeated.Goals as goal

pub returns-then-count-eq0 : goal.returns-then-count-eq0
returns-then-count-eq0 c = λ leaves size number a.
    subst (λ (k : ℕ). IsShape (flat_map leaves (replicate k number)) (sum_by size (replicate k number))
    c.shape_of_none.result) (sym c.if-count-eq0.true) c.shape_of_none.ensures

pub returns : goal.returns
returns c = λ leaves size number a. record {
  run = c.repeated_run.ensures leaves number a.run;
  size = subst (λ (k : ℕ). IsSize k c.repeated_size.result) (sym (sum_by-replicate size c.args.count number))
      (c.repeated_size.ensures (size number) a.size);
}

use Rattle.std.proofs.Common.{subst}
use Rattle.type_graph.specs.inner.Shapes.{IsRun}
use Rattle.type_graph.proofs.ShapeLaws.{mixed_first}
use Rattle.type_graph.proofs.shape.joined_run.Goals as goal

pub returns-in-Mixed : goal.returns-in-Mixed
returns-in-Mixed c = λ leaves more a b. mixed_first leaves more (subst (IsRun leaves) c.in-Mixed.is a)

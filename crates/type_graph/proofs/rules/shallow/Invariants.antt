use Rattle.type_graph.specs.inner.Levels.{IsLevel}
use Rattle.type_graph.proofs.rules.shallow.Given as goal

abbrev pub invariant-loop : goal.invariant-loop
invariant-loop l = IsLevel l.counter l.nodes l.table.items

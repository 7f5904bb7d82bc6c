use Rattle.std.proofs.Common.{◌≤◌, ◌+◌, length}
use Rattle.type_paths.specs.Levels.{IsLevel}
use Rattle.type_paths.proofs.TableLaws.{count_in}
use Rattle.type_paths.proofs.levels.paths_by.Given as goal

abbrev pub invariant-loop : goal.invariant-loop
invariant-loop l = record {
  level : IsLevel l.types l.token l.counter l.next.items;
  spare : count_in l.next.items + l.counter ≤ length l.types.nodes + 1;
}

use Rattle.std.proofs.Common.{◌≡◌, ◌<◌, ◌↔◌, ℕ, length, false}
use Rattle.type_paths.specs.Levels.{IsIn}
use Rattle.type_paths.specs.Paths.{HoldsBy, HoldsOne}
use Rattle.type_paths.proofs.levels.level_above.Given as goal

abbrev pub invariant-loop-number : goal.invariant-loop-number
invariant-loop-number l = record {
  long : length l.next.items ≡ l.number;
  above : (node : ℕ) → node < l.number → IsIn l.next.items false node
      ↔ HoldsOne (HoldsBy l.types l.token) (IsIn l.table l.past) node;
}

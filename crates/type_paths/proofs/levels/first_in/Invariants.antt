use Rattle.std.proofs.Common.{◌<◌, ℕ, false}
use Rattle.type_paths.specs.Levels.{IsIn}
use Rattle.type_paths.proofs.levels.first_in.Given as goal

abbrev pub invariant-loop-number : goal.invariant-loop-number
invariant-loop-number l = (less : ℕ) → less < l.number → IsIn l.table false less → ⊥

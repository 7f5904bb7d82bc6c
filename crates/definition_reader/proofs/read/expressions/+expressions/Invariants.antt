use Rattle.std.proofs.Common.{◌+◌, ◌-◌, ◌*◌, ◌≤◌, length}
use Rattle.std.specs.List.{AllByRecursion, flat_map}
use Rattle.definition_reader.specs.inner.Reading.{Continued}
use Rattle.idl_tree.specs.Levels.{highest}
use Rattle.idl_tree.specs.Levels.{operand_levels}
use Rattle.idl_tree.specs.Grouping.{IsOperandOf}
use Rattle.idl_tree.specs.Yields.{operand_yield}
use Rattle.std.specs.Prelude.{is_some}
use Rattle.idl_tree.specs.Descent.{inside_way, level_way, operand_way, operator_at}
use Rattle.definition_reader.specs.inner.Following.{Going}
use Rattle.definition_reader.proofs.read.expressions.+expressions.Given as goal

abbrev pub decreases-read_level : goal.decreases-read_level
decreases-read_level l = 10 * length l.cursor.now + 3 + (6 - l.level)

abbrev pub decreases-read_primary : goal.decreases-read_primary
decreases-read_primary l = 10 * length l.cursor.now + 1

abbrev pub decreases-read_unary : goal.decreases-read_unary
decreases-read_unary l = 10 * length l.cursor.now + 2

abbrev pub decreases-read_operands : goal.decreases-read_operands
decreases-read_operands l = 10 * length l.cursor.now

abbrev pub invariant-read_operands-parts : goal.invariant-read_operands-parts
invariant-read_operands-parts l = record {
  spells : Continued l.initial.cursor (flat_map operand_yield l.rest.items) l.cursor;
  operands : AllByRecursion (IsOperandOf l.shifts l.level) l.rest.items;
  levels : highest operand_levels l.rest.items ≤ l.room;
  way : Going (λ u. is_some (operator_at l.shifts l.level u))
      (λ u. operand_way (level_way (inside_way l.room) l.shifts (5 - l.level)) (operator_at l.shifts l.level u) u)
      l.initial.cursor l.cursor;
}

abbrev pub decreases-read_operands-parts : goal.decreases-read_operands-parts
decreases-read_operands-parts l = length l.cursor

use Rattle.std.proofs.Common.{◌+◌, ◌*◌, ◌≤◌, length}
use Rattle.std.specs.List.{flat_map}
use Rattle.definition_reader.specs.inner.Reading.{Continued}
use Rattle.idl_tree.specs.Levels.{highest}
use Rattle.idl_tree.specs.TypeYields.{member_yield, case_yield}
use Rattle.idl_tree.specs.TypeLevels.{member_levels, case_levels}
use Rattle.idl_tree.specs.Descent.{case_way, member_way, type_way}
use Rattle.definition_reader.specs.inner.Following.{Bracing}
use Rattle.definition_reader.proofs.read.constructed.+constructed.Given as goal

abbrev pub decreases-read_members : goal.decreases-read_members
decreases-read_members l = 10 * length l.cursor.now + 5

abbrev pub decreases-read_cases : goal.decreases-read_cases
decreases-read_cases l = 10 * length l.cursor.now + 5

abbrev pub decreases-read_member : goal.decreases-read_member
decreases-read_member l = 10 * length l.cursor.now + 4

abbrev pub decreases-read_case : goal.decreases-read_case
decreases-read_case l = 10 * length l.cursor.now + 4

abbrev pub decreases-read_union_body : goal.decreases-read_union_body
decreases-read_union_body l = 10 * length l.cursor.now + 2

abbrev pub decreases-read_type : goal.decreases-read_type
decreases-read_type l = 10 * length l.cursor.now + 3

abbrev pub decreases-read_struct : goal.decreases-read_struct
decreases-read_struct l = 10 * length l.cursor.now + 2

abbrev pub decreases-read_union : goal.decreases-read_union
decreases-read_union l = 10 * length l.cursor.now + 2

abbrev pub invariant-read_members-parts : goal.invariant-read_members-parts
invariant-read_members-parts l = record {
  spells : Continued l.fn.cursor (flat_map member_yield l.members.items) l.cursor;
  levels : highest member_levels l.members.items ≤ l.room;
  way : Bracing (member_way (type_way l.room) l.room) l.fn.cursor l.cursor;
}

abbrev pub decreases-read_members-parts : goal.decreases-read_members-parts
decreases-read_members-parts l = length l.cursor

abbrev pub invariant-read_cases-parts : goal.invariant-read_cases-parts
invariant-read_cases-parts l = record {
  spells : Continued l.fn.cursor (flat_map case_yield l.cases.items) l.cursor;
  levels : highest case_levels l.cases.items ≤ l.room;
  way : Bracing (case_way (type_way l.room) l.room) l.fn.cursor l.cursor;
}

abbrev pub decreases-read_cases-parts : goal.decreases-read_cases-parts
decreases-read_cases-parts l = length l.cursor

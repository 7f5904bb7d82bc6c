use Rattle.std.proofs.Common.{◌++◌}
use Rattle.std.specs.Prelude.{codes}
use Rattle.std.specs.List.{flat_map}
use Rattle.idl_tree.specs.Pieces.{keyword, mark}
use Rattle.idl_tree.specs.Yields.{identifier}
use Rattle.idl_tree.specs.TypeYields.{member_yield}
use Rattle.definition_reader.proofs.Parts.{part_then}
use Rattle.definition_reader.proofs.Pairs.{spelled_as, group_two}
use Rattle.idl_tree.specs.DefinitionDescent.{except_way}
use Rattle.definition_reader.proofs.Ways.{two_on, two_past, two_halts}
use Rattle.definition_reader.proofs.read.declarations.read_except.Goals as goal

pub returns-clause-spells : goal.returns-clause-spells
returns-clause-spells c =
    spelled_as (group_two (keyword (codes "exception") ++ identifier c.in-Ok.part ++ mark (codes "{"))
    (flat_map member_yield c.in-Ok-read_except_members.part.items) (mark (codes "}")))
    (part_then c.in-Ok.ensures.spells c.in-Ok-read_except_members.ensures.spells)

pub returns-in-Err-clause-stops : goal.returns-in-Err-clause-stops
unfolding except_way
returns-in-Err-clause-stops c = two_halts _ _ _ _ c.in-Err.ensures.stops

pub returns-in-Err-read_except_members-clause-stops : goal.returns-in-Err-read_except_members-clause-stops
unfolding except_way
returns-in-Err-read_except_members-clause-stops c =
    two_past _ _ _ _ c.in-Ok.ensures.way c.in-Err-read_except_members.ensures.stops

pub returns-clause-way : goal.returns-clause-way
unfolding except_way
returns-clause-way c = two_on _ _ _ _ c.in-Ok.ensures.way c.in-Ok-read_except_members.ensures.way

use Rattle.std.proofs.Common.{◌++◌, refl, arith, ◌∙◌, sym}
use Rattle.std.specs.Prelude.{codes}
use Rattle.std.specs.List.{flat_map}
use Rattle.idl_tree.specs.declared.definitions.Definition.{Interface as Interfaces}
use Rattle.idl_tree.specs.declared.definitions.Interface.TheVariants as Variants
use Rattle.idl_tree.specs.Pieces.{keyword, mark}
use Rattle.idl_tree.specs.Yields.{identifier, optional}
use Rattle.idl_tree.specs.DefinitionYields.{bases_yield, export_yield, interface_yield, definition_yield}
use Rattle.idl_tree.specs.DefinitionLevels.{definition_levels}
use Rattle.definition_reader.proofs.Parts.{part_then, part_then_more}
use Rattle.definition_reader.proofs.Pairs.{spelled_as, group_three}
use Rattle.definition_reader.proofs.Adding.{added_ended}
use Rattle.idl_tree.specs.DefinitionDescent.{interface_way}
use Rattle.definition_reader.proofs.Ways.{halts, past, halts_unseen, tail_way, tail_stops, tail_seen, tail_unseen, tail_halts_seen, tail_halts_unseen}
use Rattle.definition_reader.proofs.read.definitions.read_interface.Goals as goal

pub returns-then-is_mark-clause-spells : goal.returns-then-is_mark-clause-spells
returns-then-is_mark-clause-spells c =
    let i = Variants.Ahead c.in-Ok.part in
    added_ended definition_yield definition_levels c.args.room _ _ _ (interface_yield i) (mark (codes ";")) _ _
    (Interfaces i) c.mark.result
    c.in-Ok.ensures.spells refl (omega arith) c.in-Ok-add_interface.ensures.spells c.mark.ensures.read

pub returns-clause-spells : goal.returns-clause-spells
returns-clause-spells c =
    let bases = c.in-Ok-read_bases in
    let exports = c.in-Ok-read_exports in
    let i = Variants.Defined c.in-Ok.part bases.part exports.part in
    let pre = keyword (codes "interface") ++ identifier c.in-Ok.part ++ optional bases_yield bases.part in
    added_ended definition_yield definition_levels c.args.room _ _ _ (interface_yield i) (mark (codes ";")) _ _
    (Interfaces i) c.mark-2.result
    (spelled_as (group_three pre (mark (codes "{")) (flat_map export_yield exports.part.items) (mark (codes "}")))
    (part_then (part_then_more c.in-Ok.ensures.spells bases.ensures.spells) exports.ensures.spells))
    refl exports.ensures.levels c.in-Ok-add_interface-2.ensures.spells c.mark-2.ensures.read

pub returns-in-Err-clause-stops : goal.returns-in-Err-clause-stops
unfolding interface_way
returns-in-Err-clause-stops c = halts _ c.in-Err.ensures.stops

pub returns-then-is_mark-clause-way : goal.returns-then-is_mark-clause-way
unfolding interface_way
returns-then-is_mark-clause-way c =
    tail_way _ _ _ _ c.mark.result c.in-Ok.ensures.way
    (tail_seen _ _ _ c.mark.result (sym c.is_mark.ensures ∙ c.if-is_mark.true) (c.mark.ensures.way))

pub returns-then-is_mark-clause-stops : goal.returns-then-is_mark-clause-stops
unfolding interface_way
returns-then-is_mark-clause-stops c =
    tail_stops _ _ _ c.mark.result c.in-Ok.ensures.way
    (tail_halts_seen _ _ c.mark.result (sym c.is_mark.ensures ∙ c.if-is_mark.true) (c.mark.ensures.stops))

pub returns-in-Err-read_bases-clause-stops : goal.returns-in-Err-read_bases-clause-stops
unfolding interface_way
returns-in-Err-read_bases-clause-stops c =
    past _ c.in-Ok.ensures.way
    (halts_unseen _ (sym c.is_mark.ensures ∙ c.if-is_mark.false) (halts _ c.in-Err-read_bases.ensures.stops))

pub returns-in-Err-read_exports-clause-stops : goal.returns-in-Err-read_exports-clause-stops
unfolding interface_way
returns-in-Err-read_exports-clause-stops c =
    past _ c.in-Ok.ensures.way
    (halts_unseen _ (sym c.is_mark.ensures ∙ c.if-is_mark.false)
    (past _ c.in-Ok-read_bases.ensures.way (halts _ c.in-Err-read_exports.ensures.stops)))

pub returns-clause-way : goal.returns-clause-way
unfolding interface_way
returns-clause-way c = tail_way _ _ _ _ c.mark-2.result c.in-Ok.ensures.way
    (tail_unseen _ _ _ c.mark-2.result (sym c.is_mark.ensures ∙ c.if-is_mark.false)
    (tail_way _ _ _ _ c.mark-2.result c.in-Ok-read_bases.ensures.way
    (tail_way _ _ _ _ c.mark-2.result c.in-Ok-read_exports.ensures.way c.mark-2.ensures.way)))

pub returns-clause-stops : goal.returns-clause-stops
unfolding interface_way
returns-clause-stops c =
    tail_stops _ _ _ c.mark-2.result c.in-Ok.ensures.way
    (tail_halts_unseen _ _ c.mark-2.result (sym c.is_mark.ensures ∙ c.if-is_mark.false)
    (tail_stops _ _ _ c.mark-2.result c.in-Ok-read_bases.ensures.way
    (tail_stops _ _ _ c.mark-2.result c.in-Ok-read_exports.ensures.way c.mark-2.ensures.stops)))

use Rattle.std.proofs.Common.{◌++◌, sym, subst}
use Rattle.std.specs.Prelude.{codes}
use Rattle.idl_tree.specs.Pieces.{keyword}
use Rattle.idl_tree.specs.TypeYields.{param_type_yield}
use Rattle.idl_tree.specs.DefinitionYields.{readonly_yield, attributes_yield}
use Rattle.definition_reader.specs.inner.Reading.{Parsed}
use Rattle.definition_reader.proofs.Parts.{part_then, more_then_part}
use Rattle.idl_tree.specs.DefinitionDescent.{attribute_way}
use Rattle.definition_reader.proofs.Ways.{on, halts, past}
use Rattle.definition_reader.proofs.read.interfaces.read_attribute.Goals as goal

pub returns-clause-spells : goal.returns-clause-spells
returns-clause-spells c =
    let t = c.in-Ok-read_param_type in
    let a = c.in-Ok-read_attributes in
    subst (λ b. Parsed c.args.cursor.now
    (readonly_yield b ++ keyword (codes "attribute") ++ param_type_yield t.part ++ attributes_yield a.part)
    c.read_attributes.new.cursor) (sym a.ensures.kind)
    (part_then (part_then (more_then_part c.take_readonly-is_readonly.ensures.spells c.in-Ok.ensures.read)
    t.ensures.spells) a.ensures.spells)

pub returns-in-Err-clause-stops : goal.returns-in-Err-clause-stops
unfolding attribute_way
returns-in-Err-clause-stops c = past _ c.take_readonly-is_readonly.ensures.way (halts _ c.in-Err.ensures.stops)

pub returns-in-Err-read_param_type-clause-stops : goal.returns-in-Err-read_param_type-clause-stops
unfolding attribute_way
returns-in-Err-read_param_type-clause-stops c =
    past _ c.take_readonly-is_readonly.ensures.way
    (past _ c.in-Ok.ensures.way (halts _ c.in-Err-read_param_type.ensures.stops))

pub returns-in-Err-read_attributes-clause-stops : goal.returns-in-Err-read_attributes-clause-stops
unfolding attribute_way
returns-in-Err-read_attributes-clause-stops c =
    past _ c.take_readonly-is_readonly.ensures.way
    (past _ c.in-Ok.ensures.way
    (past _ c.in-Ok-read_param_type.ensures.way
    (rw c.take_readonly-is_readonly.ensures.seen at c.in-Err-read_attributes.ensures.stops)))

pub returns-clause-way : goal.returns-clause-way
unfolding attribute_way
returns-clause-way c = on _ c.take_readonly-is_readonly.ensures.way
    (on _ c.in-Ok.ensures.way
    (on _ c.in-Ok-read_param_type.ensures.way
    (rw c.take_readonly-is_readonly.ensures.seen at c.in-Ok-read_attributes.ensures.way)))

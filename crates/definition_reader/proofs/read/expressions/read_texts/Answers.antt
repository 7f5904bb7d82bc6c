use Rattle.idl_tree.specs.Yields.{text_yield}
use Rattle.definition_reader.proofs.Reading.{one_more, none_read}
use Rattle.std.proofs.Common.{◌∙◌, sym, ap, Some}
use Rattle.definition_reader.proofs.Ways.{going_begins, going_on, going_ends}
use Rattle.definition_reader.proofs.read.expressions.read_texts.Goals as goal

pub parts-init : goal.parts-init
parts-init c = record { spells = none_read _ _ _ c.new-rest.ensures.items; way = going_begins _ _ _ }

pub parts-preserved : goal.parts-preserved
parts-preserved c = record {
  spells = one_more text_yield _ _ _ _ _ _ c.parts.invariant.spells c.in-Some.ensures.read c.in-Ok.ensures.spells;
  way = going_on _ _ _ _ _ c.parts.invariant.way c.in-Some.ensures.seen c.in-Some.ensures.way c.in-Some.ensures.read.on;
}

pub returns-clause-way : goal.returns-clause-way
returns-clause-way c = going_ends _ _ _ _ c.parts.invariant.way c.in_default.ensures.unseen
    ∙ ap Some (sym c.in_default.ensures.missing)

use Rattle.std.proofs.Common.{◌++◌, ◌∙◌, Some, ap, sym}
use Rattle.std.specs.Prelude.{codes}
use Rattle.idl_tree.specs.Pieces.{mark}
use Rattle.idl_tree.specs.Yields.{identifier}
use Rattle.definition_reader.proofs.Reading.{one_more, then_read, none_read}
use Rattle.definition_reader.proofs.Ways.{going_begins, going_on, going_ends, going_stops, on, past}
use Rattle.definition_reader.proofs.read.names.read_parts.Goals as goal

pub parts-init : goal.parts-init
parts-init c = record { spells = none_read _ _ _ c.new-rest.ensures.items; way = going_begins _ _ _ }

pub parts-preserved : goal.parts-preserved
parts-preserved c =
    let spelled = then_read _ _ _ _ _ c.parts-test.ensures.read c.in-Ok.ensures.read in
    record {
      spells = one_more (λ x. mark (codes "::") ++ identifier x) _ _ _ _ _ _ c.parts.invariant.spells spelled
          c.in-Ok-add.ensures.spells;
      way = going_on _ _ _ _ _ c.parts.invariant.way c.parts-test.ensures.seen
          (on _ c.parts-test.ensures.way c.in-Ok.ensures.way) spelled.on;
    }

pub returns-in-Err-clause-stops : goal.returns-in-Err-clause-stops
returns-in-Err-clause-stops c =
    going_stops _ _ _ _ _ c.parts.invariant.way c.parts-test.ensures.seen
    (past _ c.parts-test.ensures.way c.in-Err.ensures.stops)

pub returns-clause-way : goal.returns-clause-way
returns-clause-way c = going_ends _ _ _ _ c.parts.invariant.way c.parts-test.ensures.unseen
    ∙ ap Some (sym c.parts-test.ensures.missing)

use Rattle.std.proofs.Common.{ℕ, List, map, arith}
use Rattle.std.proofs.lemmas.List.{length-map}
use Rattle.type_model.proofs.NameLaws.{mark_name, mark_past, marks_done, within_done}
use Rattle.type_model.proofs.names.marks_of.Goals as goal

pub loop-place-preserved : goal.loop-place-preserved
loop-place-preserved c = mark_name c.args.names.now c.args.count c.loop-place.place c.index-names-place.result
    c.loop-place.marks.items c.loop-place-test.true c.if-node-count.false c.loop-place.invariant

pub returns-then-node-count-clause-refused : goal.returns-then-node-count-clause-refused
returns-then-node-count-clause-refused c =
    mark_past c.args.names.now c.args.count c.loop-place.place c.index-names-place.result c.loop-place-test.true
    c.if-node-count.true

pub returns-clause-marks : goal.returns-clause-marks
returns-clause-marks c =
    marks_done (map (λ (name : List ℕ × ℕ). name.1) c.args.names.now) c.args.count c.loop-place.place
    c.loop-place.marks.items
    (omega (arith, c.loop-place-test.false, length-map c.args.names.now (λ (name : List ℕ × ℕ). name.1)))
    c.loop-place.invariant

pub returns-clause-within : goal.returns-clause-within
returns-clause-within c =
    within_done (map (λ (name : List ℕ × ℕ). name.1) c.args.names.now) c.args.count c.loop-place.place
    c.loop-place.marks.items
    (omega (arith, c.loop-place-test.false, length-map c.args.names.now (λ (name : List ℕ × ℕ). name.1)))
    c.loop-place.invariant

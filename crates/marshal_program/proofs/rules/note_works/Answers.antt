use Rattle.std.proofs.Common.{◌<◌, length, sym, ap, ◌∙◌, arith}
use Rattle.std.specs.List.{list_any}
use Rattle.marshal_program.specs.declared.instr.Routine.{Routine}
use Rattle.marshal_program.specs.ProgramRules.{is_work}
use Rattle.marshal_program.proofs.Works.{all_marked, marked_more, none_marked_yet}
use Rattle.marshal_program.proofs.rules.note_works.Goals as goal

pub loop-number-init : goal.loop-number-init
loop-number-init c = none_marked_yet _ _ c.requires.none

pub loop-number-preserved : goal.loop-number-preserved
loop-number-preserved c =
    let long = c.loop-number.auto.works in
    let room : c.loop-number.number < length c.loop-number.works =
    omega (arith, long, c.requires.room, c.loop-number-test.true) in
    let says = c.has_work.ensures ∙ ap (list_any is_work) c.as_slice.ensures
    ∙ ap (λ (routine : Routine). list_any is_work routine.code) (sym c.index-routines-number.is) in
    marked_more c.args.routines.now c.loop-number.works c.loop-number.number c.index-routines-number.result
    c.has_work.result c.loop-number-test.true room c.index-routines-number.is says c.loop-number.invariant

pub returns : goal.returns
returns c = all_marked c.args.routines.now c.loop-number.works c.loop-number.number c.loop-number-test.false
    c.loop-number.invariant

use Rattle.std.proofs.Common.{◌≡◌, ◌<◌, ◌≤◌, List, length, get_or, subst}
use Rattle.marshal_program.specs.declared.instr.Routine.{Routine}
use Rattle.position_checker.proofs.ServedLaws.{serves_more, serves_all}
use Rattle.position_checker.proofs.served.serving_of.Goals as goal

pub loop-number-preserved : goal.loop-number-preserved
loop-number-preserved c =
    let number = c.loop-number.number in
    let routine = c.index-routines-number.result in
    let within = subst (λ (routines : List Routine). number < length routines) c.routines-routines.ensures.value
    c.loop-number-test.true in
    let is = subst (λ (routines : List Routine). routine ≡ get_or routines number routine)
    c.routines-routines.ensures.value c.index-routines-number.is in
    serves_more c.args.program.now c.args.count number routine c.loop-number.served.items c.add.new.served.items within
    is c.add.ensures.long c.add.ensures.each c.loop-number.invariant

pub returns : goal.returns
returns c =
    let past = subst (λ (routines : List Routine). length routines ≤ c.loop-number.number)
    c.routines-routines.ensures.value c.loop-number-test.false in
    serves_all c.args.program.now c.args.count c.loop-number.number c.loop-number.served.items past
    c.loop-number.invariant

use Rattle.std.proofs.Common.{◌≡◌, ◌≢◌, ◌≤◌, List, length, drop, Some, subst, ◌∙◌}
use Rattle.marshal_program.specs.declared.instr.Routine.{Routine}
use Rattle.marshal_program.specs.Plain.{plain_program}
use Rattle.marshal_program.specs.Joined.{joined_program}
use Rattle.routine_checker.specs.Steps.{routine_fault, routines_fault, program_fault, place_of}
use Rattle.routine_checker.proofs.Sound.{sound}
use Rattle.routine_checker.proofs.PlainPasses.{plain_passes}
use Rattle.routine_checker.proofs.JoinedPasses.{joined_passes}
use Rattle.routine_checker.proofs.CheckCode.{routines_first, routines_all, not_refused}
use Rattle.routine_checker.proofs.check.check_routines.Goals as goal
use Rattle.type_graph.proofs.Refusals.{only_if_weaker}
use Rattle.routine_checker.specs.Refusal.{wants_memory}

-- the fault of the routine is that of the program
refused : (c : goal.After-drop-counts-in-Err-3)
    → routine_fault c.args.graph.now c.routines-routines.result.now (place_of c.args.which c.loop-number.number)
    c.index-routines-number.result ≡ Some c.in-Err.fault
    → program_fault c.args.which c.args.graph.now c.args.program.now ≡ Some c.in-Err.fault
refused c e =
    let routines = c.routines-routines.result.now in
    let number = c.loop-number.number in
    let graph = c.args.graph.now in
    let there = subst (λ (routine : Routine). routine_fault graph routines (place_of c.args.which number) routine
    ≡ Some c.in-Err.fault) c.index-routines-number.is e in
    let all = routines_first c.args.which graph routines number c.index-routines-number.result c.in-Err.fault
    c.loop-number-test.true there in
    c.loop-number.invariant ∙ subst (λ (program : List Routine). routines_fault c.args.which graph program number
    (drop number program) ≡ Some c.in-Err.fault) c.routines-routines.ensures.value all

pub returns-in-Err-clause-plain : goal.returns-in-Err-clause-plain
returns-in-Err-clause-plain c =
    let graph = c.args.graph.now in
    let program = c.args.program.now in
    only_if_weaker (wants_memory c.in-Err.fault)
    (routine_fault graph c.routines-routines.result.now (place_of c.args.which c.loop-number.number)
    c.index-routines-number.result ≡ Some c.in-Err.fault) (program ≢ plain_program graph)
    (λ e. not_refused c.args.which graph program (plain_program graph) c.in-Err.fault
    (plain_passes c.args.which graph c.nodes-nodes.ensures.rules) (refused c e)) c.in-Err.ensures.refused

pub returns-in-Err-clause-joined : goal.returns-in-Err-clause-joined
returns-in-Err-clause-joined c =
    let graph = c.args.graph.now in
    let program = c.args.program.now in
    only_if_weaker (wants_memory c.in-Err.fault)
    (routine_fault graph c.routines-routines.result.now (place_of c.args.which c.loop-number.number)
    c.index-routines-number.result ≡ Some c.in-Err.fault) (program ≢ joined_program graph)
    (λ e. not_refused c.args.which graph program (joined_program graph) c.in-Err.fault
    (joined_passes c.args.which graph c.nodes-nodes.ensures.rules) (refused c e)) c.in-Err.ensures.refused

pub returns-clause-right : goal.returns-clause-right
returns-clause-right c =
    let graph = c.args.graph.now in
    let program = c.args.program.now in
    let past : length program ≤ c.loop-number.number =
    subst (λ (routines : List Routine). length routines ≤ c.loop-number.number) c.routines-routines.ensures.value
    c.loop-number-test.false in
    sound c.args.which graph program c.nodes-nodes.ensures.rules c.routines-routines.ensures.rules
    (c.loop-number.invariant ∙ routines_all c.args.which graph program c.loop-number.number past)

pub returns-in-Err-clause-fault : goal.returns-in-Err-clause-fault
returns-in-Err-clause-fault c =
    let fault = c.in-Err.fault in
    only_if_weaker (wants_memory fault)
    (routine_fault c.args.graph.now c.routines-routines.result.now (place_of c.args.which c.loop-number.number)
    c.index-routines-number.result ≡ Some fault)
    (program_fault c.args.which c.args.graph.now c.args.program.now ≡ Some fault)
    (refused c) c.in-Err.ensures.refused

pub returns-clause-accepted : goal.returns-clause-accepted
returns-clause-accepted c =
    let program = c.args.program.now in
    let past : length program ≤ c.loop-number.number =
    subst (λ (routines : List Routine). length routines ≤ c.loop-number.number) c.routines-routines.ensures.value
    c.loop-number-test.false in
    c.loop-number.invariant ∙ routines_all c.args.which c.args.graph.now program c.loop-number.number past

use Rattle.std.proofs.Common.{◌≡◌, ◌<◌, ◌≤◌, length, Some, sym, ap, subst, ◌∙◌, arith}
use Rattle.routine_checker.specs.Steps.{entries_fault, routine_fault}
use Rattle.routine_checker.proofs.CheckCode.{routine_outside, routine_inside, first_entry}
use Rattle.routine_checker.proofs.check.check_routine.Goals as goal
use Rattle.type_graph.proofs.Refusals.{only_if_holds}
use Rattle.routine_checker.specs.Refusal.{wants_memory}

pub returns-then-routine-nodes-clause-refused : goal.returns-then-routine-nodes-clause-refused
returns-then-routine-nodes-clause-refused c =
    routine_outside c.args.graph.now c.args.program.now c.args.at c.args.routine.now
    (subst (λ nodes. nodes ≤ c.args.routine.now.node) c.requires.nodes c.if-routine-nodes.true)

pub returns-in-Err-clause-refused : goal.returns-in-Err-clause-refused
returns-in-Err-clause-refused c =
    let graph = c.args.graph.now in
    let program = c.args.program.now in
    let at = c.args.at in
    let routine = c.args.routine.now in
    let fault = c.in-Err.fault in
    let inside : routine.node < length graph =
    subst (λ nodes. routine.node < nodes) c.requires.nodes c.if-routine-nodes.false in
    only_if_holds (wants_memory fault) (routine_fault graph program at routine ≡ Some fault)
    (routine_inside graph program at routine inside
    ∙ first_entry graph program at routine c.loop-entry.entry fault c.loop-entry-test.true c.loop-entry.invariant
    (sym c.has.ensures ∙ c.if-has.true) c.in-Err.ensures.refused)

pub returns-clause-ok : goal.returns-clause-ok
returns-clause-ok c =
    let graph = c.args.graph.now in
    let routine = c.args.routine.now in
    let inside : routine.node < length graph =
    subst (λ nodes. routine.node < nodes) c.requires.nodes c.if-routine-nodes.false in
    let all : 8 ≡ c.loop-entry.entry = omega (arith, c.loop-entry-test.false, c.loop-entry.auto.entry-end) in
    routine_inside graph c.args.program.now c.args.at routine inside
    ∙ ap (entries_fault graph c.args.program.now c.args.at routine) all ∙ c.loop-entry.invariant

use Rattle.position_checker.proofs.VerdictLaws.{first_is_first, second_is_next, names_pass, names_told}
use Rattle.position_checker.proofs.verdict.judge.Goals as goal
use Rattle.type_graph.proofs.Refusals.{only_if_weaker}
use Rattle.routine_checker.specs.Refusal.{wants_memory}

pub returns-in-Err-clause-fault : goal.returns-in-Err-clause-fault
returns-in-Err-clause-fault c =
    only_if_weaker (wants_memory c.in-Err.fault) _ _ (first_is_first c.args.table.now c.in-Err.fault)
    c.in-Err.ensures.fault

pub returns-in-Err-check_program-clause-fault : goal.returns-in-Err-check_program-clause-fault
returns-in-Err-check_program-clause-fault c =
    only_if_weaker (wants_memory c.in-Err-check_program.fault) _ _
    (second_is_next c.args.table.now c.in-Err-check_program.fault c.in-Ok.ensures.accepted)
    c.in-Err-check_program.ensures.fault

pub returns-clause-accepted : goal.returns-clause-accepted
returns-clause-accepted c =
    names_pass c.args.table.now c.routes_of.result c.in-Ok.ensures.accepted c.in-Ok-check_program.ensures.accepted
    c.routes_of.ensures.accepted

pub returns-clause-fault : goal.returns-clause-fault
returns-clause-fault c =
    names_told c.args.table.now c.routes_of.result c.in-Ok.ensures.accepted c.in-Ok-check_program.ensures.accepted
    c.routes_of.ensures.fault

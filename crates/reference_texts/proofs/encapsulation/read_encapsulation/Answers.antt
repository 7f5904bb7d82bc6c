use Rattle.reference_texts.proofs.Encapsulated.{none_read, tape_read}
use Rattle.reference_texts.proofs.Faults.{run_refused}
use Rattle.reference_texts.proofs.encapsulation.read_encapsulation.Goals as goal

pub returns-in-Ok-clause-found : goal.returns-in-Ok-clause-found
returns-in-Ok-clause-found c =
    tape_read c.args.octets.now c.in-Some.behind.now c.in-Some.order c.args.node c.in-Ok.tape.items c.in-Ok.field-0-1
    c.in-Some.ensures.found c.in-Ok.ensures.found

pub returns-in-Err-clause-refused : goal.returns-in-Err-clause-refused
returns-in-Err-clause-refused c =
    run_refused c.in-Err.fault c.from.result _ _ c.from.ensures
    (none_read c.args.octets.now c.in-Some.behind.now c.in-Some.order c.args.node c.in-Some.ensures.found)
    c.in-Err.ensures.refused

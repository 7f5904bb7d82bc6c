use Rattle.reference_texts.proofs.Encapsulated.{none_written}
use Rattle.reference_texts.proofs.Faults.{run_refused}
use Rattle.reference_texts.proofs.encapsulation.write_encapsulation.Goals as goal

pub returns-in-Err-clause-refused : goal.returns-in-Err-clause-refused
returns-in-Err-clause-refused c =
    run_refused c.in-Err.fault c.from.result _ _ c.from.ensures (none_written c.args.node c.args.tape.now)
    c.in-Err.ensures.refused

use Rattle.idlc_main.proofs.DumpEnds.{unloaded_end}
use Rattle.idlc_main.proofs.dumps.dumped.Goals as goal

pub returns-in-Err-clause-output : goal.returns-in-Err-clause-output
returns-in-Err-clause-output g c =
    unloaded_end g.O.Write.contents c.in-Err.fault c.from.result c.args.out.now c.from.ensures

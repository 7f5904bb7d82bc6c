use Rattle.idlc_main.proofs.Unspelled.{no_reference}
use Rattle.idlc_main.proofs.descriptions.described_text.Goals as goal

pub returns-clause-refused : goal.returns-clause-refused
returns-clause-refused g c =
    no_reference (g.R.WholeFiles.reads c.args.rt.now) c.args.word.now c.args.text.now c.trim_ascii.result.now
    c.in-Err.fault
    c.requires c.trim_ascii.ensures.value c.in-Err.ensures.refused

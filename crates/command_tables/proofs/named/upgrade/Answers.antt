use Rattle.std.proofs.Common.{string_bytes}
use Rattle.command_tables.proofs.NamedLaws.{upgraded_is, not_written}
use Rattle.command_tables.proofs.named.upgrade.Goals as goal

pub returns-clause-written : goal.returns-clause-written
returns-clause-written g c =
    upgraded_is (g.R.WholeFiles.reads c.args.rt.now) c.args.name.now c.in-Ok.table c.in-Ok.ensures.is string_bytes
    (g.R.WholeFiles.takes c.args.rt.now)
    c.args.output.now c.write_upgraded.result c.write_upgraded.ensures.written c.write_upgraded.ensures.line

pub returns-clause-refused : goal.returns-clause-refused
returns-clause-refused g c =
    not_written (g.R.WholeFiles.reads c.args.rt.now) c.args.name.now c.in-Ok.table c.in-Ok.ensures.is string_bytes
    c.args.output.now
    c.write_upgraded.result c.write_upgraded.ensures.refused

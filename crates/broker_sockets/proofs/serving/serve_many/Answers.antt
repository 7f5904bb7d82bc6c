use Rattle.std.proofs.Common.{◌*◌}
use Rattle.broker_sockets.proofs.Counts.{many_came}
use Rattle.broker_sockets.proofs.serving.serve_many.Goals as goal

pub returns-clause-done : goal.returns-clause-done
returns-clause-done g c =
    many_came c.args.table.model c.args.options.now.object.now c.args.options.now.connections
    (c.args.options.now.idle * 1000)
    c.serve_table_at_once.new.listener.count c.in_ok-serve_table_at_once.ensures.done
    c.in_ok-serve_table_at_once.ensures.count

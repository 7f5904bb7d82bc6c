use Rattle.broker_sockets.proofs.Counts.{all_came}
use Rattle.broker_sockets.proofs.serving.serve_in_turn.Goals as goal

pub returns-clause-done : goal.returns-clause-done
returns-clause-done g c =
    all_came c.args.table.model c.args.options.now.object.now c.args.options.now.connections c.new-loopback.result.count
    c.serve_table.new.listener.count c.new-loopback.ensures c.in_ok-serve_table.ensures.done

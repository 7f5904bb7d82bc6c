use Rattle.broker_sockets.proofs.Sessions.{done_on_ok, faults_have_causes, has_object, none_of_object}
use Rattle.broker_sockets.proofs.serving.serve_table.Goals as goal

pub returns-clause-done : goal.returns-clause-done
returns-clause-done g c =
    done_on_ok c.args.table.model c.args.options.now.object.now _ c.serve_by.result c.in_ok-broker.broker
    c.args.options.now.connections
    _ _ _ c.in_ok-broker.ensures.made c.serve_by.ensures.done

pub returns-clause-refused : goal.returns-clause-refused
returns-clause-refused g c =
    faults_have_causes c.args.table.model c.args.options.now.object.now c.serve_by.result c.serve_by.ensures.later
    (has_object c.args.table.model c.args.options.now.object.now c.in_ok-broker.broker c.in_ok-broker.ensures.made)

pub returns-clause-silent : goal.returns-clause-silent
returns-clause-silent g c =
    none_of_object c.args.table.model c.args.options.now.object.now _ c.serve_by.result c.serve_by.ensures.later

pub returns-clause-deaf : goal.returns-clause-deaf
returns-clause-deaf g c = none_of_object c.args.table.model c.args.options.now.object.now _ c.serve_by.result
    c.serve_by.ensures.later

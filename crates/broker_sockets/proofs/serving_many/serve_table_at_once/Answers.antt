use Rattle.std.proofs.Common.{◌*◌, ℕ, OnOk, subst}
use Rattle.broker_sockets.specs.Serving.{IsDoneTogether}
use Rattle.broker_sockets.proofs.Sessions.{faults_have_causes, has_object, none_of_object, together_on_ok}
use Rattle.broker_sockets.proofs.serving_many.serve_table_at_once.Goals as goal

pub returns-clause-done : goal.returns-clause-done
returns-clause-done g c =
    let told = g.L.PolledListener.ended c.serve_by.new.listener in
    let came = g.L.Listener.came c.serve_by.new.listener in
    let word = c.args.options.now.object.now in
    subst (λ (n : ℕ). OnOk c.serve_by.result (IsDoneTogether told c.args.table.model word (n * 1000) came))
    c.from-idle.ensures
    (together_on_ok c.args.table.model word told c.serve_by.result c.in_ok-broker.broker (c.from-idle.result * 1000)
    came
    c.serve_by.new.broker.world.servant c.in_ok-broker.ensures.made c.serve_by.ensures.done)

pub returns-clause-refused : goal.returns-clause-refused
returns-clause-refused g c =
    faults_have_causes c.args.table.model c.args.options.now.object.now c.serve_by.result c.serve_by.ensures.later
    (has_object c.args.table.model c.args.options.now.object.now c.in_ok-broker.broker c.in_ok-broker.ensures.made)

pub returns-clause-silent : goal.returns-clause-silent
returns-clause-silent g c =
    none_of_object c.args.table.model c.args.options.now.object.now _ c.serve_by.result c.serve_by.ensures.later

pub returns-clause-deaf : goal.returns-clause-deaf
returns-clause-deaf g c = none_of_object c.args.table.model c.args.options.now.object.now _ c.serve_by.result
    c.serve_by.ensures.later

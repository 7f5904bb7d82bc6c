use Rattle.broker_answers.specs.Objects.{objects_of}
use Rattle.broker_sockets.proofs.Objects.{lone_served}
use Rattle.broker_sockets.proofs.object.broker_of.Goals as goal

pub new-requires : goal.new-requires
new-requires c =
    lone_served c.args.table.model c.args.word.now (objects_of c.in_ok-objects.objects.items) c.in_ok-objects.keeper
    c.in_ok-objects.ensures.made

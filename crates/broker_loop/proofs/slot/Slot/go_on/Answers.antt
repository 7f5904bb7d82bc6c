use Rattle.std.proofs.Common.{rules, ◌≡◌, [], Some}
use Rattle.broker_answers.specs.Streams.{Closed}
use Rattle.broker_answers.specs.Connections.{at}
use Rattle.broker_answers.specs.Servants.{acts}
use Rattle.broker_loop.proofs.Turns.{sent_on, closed_on, heard_on, heard_asked, sent_asked}
use Rattle.broker_loop.proofs.slot.Slot.go_on.Goals as goal

pub returns-then-not-is_sent-clause-on : goal.returns-then-not-is_sent-clause-on
returns-then-not-is_sent-clause-on g c = λ idle before came ended front back going in_time.
    sent_on (acts g.S.Servant.says g.S.Servant.after) c.args.broker.now.served idle before came ended
    c.args.broker.now.world front
    c.args.self.now c.send.new.self back c.send.result going in_time c.send.ensures

pub returns-then-not-is_sent-clause-asked : goal.returns-then-not-is_sent-clause-asked
returns-then-not-is_sent-clause-asked g c = λ looks asked.
    sent_asked looks c.args.self.now c.send.new.self c.send.result c.send.ensures asked

pub returns-then-is_closed-clause-on : goal.returns-then-is_closed-clause-on
returns-then-is_closed-clause-on g c = λ idle before came ended front back going in_time.
    let sent : c.args.self.now.waiting ≡ [] = search rules in
    let closed : at c.args.self.now.number c.args.broker.now.world.there ≡ Some Closed = search rules in
    closed_on (acts g.S.Servant.says g.S.Servant.after) c.args.broker.now.served idle before came ended
    c.args.broker.now.world front
    c.args.self.now back going in_time sent closed

pub returns-clause-on : goal.returns-clause-on
returns-clause-on g c = λ idle before came ended front back going in_time.
    let sent : c.args.self.now.waiting ≡ [] = search rules in
    heard_on (acts g.S.Servant.says g.S.Servant.after) c.args.broker.now.served idle before came ended
    c.args.broker.now.world
    c.hear.new.broker.world front c.args.self.now c.hear.new.self back c.hear.result going in_time sent
    c.hear.ensures.heard

pub returns-clause-asked : goal.returns-clause-asked
returns-clause-asked g c = λ looks asked.
    heard_asked (acts g.S.Servant.says g.S.Servant.after) c.args.broker.now.served looks c.args.broker.now.world
    c.hear.new.broker.world c.args.self.now c.hear.new.self c.hear.result c.hear.ensures.heard asked

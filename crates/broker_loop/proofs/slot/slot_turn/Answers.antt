use Rattle.std.proofs.Common.{rules, ◌≡◌, ◌<◌, subst}
use Rattle.broker_answers.specs.Servants.{acts}
use Rattle.broker_loop.specs.declared.slot.Course.{Course}
use Rattle.broker_loop.specs.declared.slot.Course.TheVariants.{Over}
use Rattle.broker_loop.specs.inner.Going.{IsOn, stays}
use Rattle.broker_loop.proofs.Turns.{judged_again, judged_asked, judged_on, over_on, unlimited_on}
use Rattle.broker_loop.proofs.slot.slot_turn.Goals as goal

pub returns-then-idle-eq0-clause-on : goal.returns-then-idle-eq0-clause-on
returns-then-idle-eq0-clause-on g c = λ before came ended front back going in_time.
    let none : c.args.idle ≡ 0 = search rules in
    unlimited_on (acts g.S.Servant.says g.S.Servant.after) c.args.broker.now.served c.args.idle before came ended
    c.go_on-course.new.broker.world front c.go_on-course.new.self back c.go_on-course.result
    (stays c.go_on-course.result) none
    (c.go_on-course.ensures.on c.args.idle before came ended front back going in_time)

pub returns-then-idle-eq0-clause-asked : goal.returns-then-idle-eq0-clause-asked
returns-then-idle-eq0-clause-asked g c =
    λ asked. c.go_on-course.ensures.asked (g.L.PolledListener.looks c.args.listener.now) asked

pub returns-in-Over-clause-on : goal.returns-in-Over-clause-on
returns-in-Over-clause-on g c = λ before came ended front back going in_time.
    let acting = acts g.S.Servant.says g.S.Servant.after in
    let over : c.go_on-course.result ≡ Over c.in-Over.end = search rules in
    over_on acting c.args.broker.now.served c.args.idle before came ended
    c.go_on-course.new.broker.world front c.go_on-course.new.self back c.in-Over.end (stays (Over c.in-Over.end))
    (subst (λ (k : Course). IsOn acting c.args.broker.now.served c.args.idle before came ended
    c.go_on-course.new.broker.world (stays k) front c.go_on-course.new.self back k) over
    (c.go_on-course.ensures.on c.args.idle before came ended front back going in_time))

pub returns-in-Over-clause-asked : goal.returns-in-Over-clause-asked
returns-in-Over-clause-asked g c =
    λ asked. c.go_on-course.ensures.asked (g.L.PolledListener.looks c.args.listener.now) asked

pub returns-in_default-clause-on : goal.returns-in_default-clause-on
returns-in_default-clause-on g c = λ before came ended front back going in_time.
    let some : 0 < c.args.idle = search rules in
    judged_on (acts g.S.Servant.says g.S.Servant.after) c.args.broker.now.served c.args.idle before
    (g.L.PolledListener.looks c.args.listener.now) came ended
    c.go_on-course.new.broker.world front c.go_on-course.new.self c.judge.new.slot back c.go_on-course.result
    c.judge.result some c.in_default.not-Over
    (c.go_on-course.ensures.on c.args.idle before came ended front back going in_time) c.judge.ensures.judged

pub returns-in_default-clause-asked : goal.returns-in_default-clause-asked
returns-in_default-clause-asked g c = λ asked.
    let looks = g.L.PolledListener.looks c.args.listener.now in
    judged_asked c.args.idle looks looks c.go_on-course.new.broker.world.there c.go_on-course.new.self c.judge.new.slot
    c.go_on-course.result c.judge.result c.judge.ensures.judged (c.go_on-course.ensures.asked looks asked)

pub returns-in_default-clause-in_turn : goal.returns-in_default-clause-in_turn
returns-in_default-clause-in_turn g c = λ some goes asked.
    let looks = g.L.PolledListener.looks c.args.listener.now in
    judged_again c.args.idle looks c.go_on-course.new.broker.world.there c.go_on-course.new.self c.judge.new.slot
    c.go_on-course.result c.judge.result goes c.judge.ensures.judged (c.go_on-course.ensures.asked looks asked)

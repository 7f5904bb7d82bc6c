use Rattle.std.proofs.Common.{rules, None}
use Rattle.broker_loop.specs.inner.Turns.{IsStanding}
use Rattle.broker_loop.proofs.Turns.{judged_none}
use Rattle.broker_loop.proofs.slot.judge.Goals as goal

pub returns-in-None-clause-judged : goal.returns-in-None-clause-judged
returns-in-None-clause-judged g c =
    let looks = g.L.PolledListener.looks c.args.listener.now in
    let h : IsStanding c.args.idle looks c.args.broker.now.world.there c.args.slot.now c.args.course c.ask.new.slot
    None = search rules in
    judged_none c.args.idle looks c.args.broker.now.world.there c.args.slot.now c.ask.new.slot c.args.course
    c.requires.going h

use Rattle.std.proofs.Common.{arith, Some, None, Ok, Err}
use Rattle.giop.specs.Made.{given_by}
use Rattle.reference_texts.specs.References.{reference_of}
use Rattle.call_client.specs.Talks.{asking}
use Rattle.call_commands.specs.Wanted.{called_of}
use Rattle.call_commands.proofs.Chains.{ended, further, isnt_forwarded}
use Rattle.call_commands.proofs.followed_calls.followed.call_object.Goals as goal

pub returns-in_default-outcome : goal.returns-in_default-outcome
returns-in_default-outcome g c =
    ended (g.D.Dial.went c.args.dial.now) (asking c.args.request.now (given_by c.args.body) c.args.reads)
    (called_of c.args.wanted.now) (reference_of c.args.ior) (g.D.Dial.lines c.args.dial.now)
    (g.D.Dial.went c.loop-count.dial) (g.D.Dial.went c.call_heeding.new.dial) c.loop-count._count
    (reference_of c.loop-count.at) (g.D.Dial.lines c.loop-count.dial) (g.D.Dial.lines c.call_heeding.new.dial)
    c.loop-count.invariant (Ok (Some c.in-Some.outcome)) (omega arith)
    (isnt_forwarded c.in-Some.outcome c.in_default-outcome.not-Forwarded)
    (rw c.in-Some.is at c.in-Ok.ensures)

pub returns-in_default : goal.returns-in_default
returns-in_default g c =
    ended (g.D.Dial.went c.args.dial.now) (asking c.args.request.now (given_by c.args.body) c.args.reads)
    (called_of c.args.wanted.now) (reference_of c.args.ior) (g.D.Dial.lines c.args.dial.now)
    (g.D.Dial.went c.loop-count.dial) (g.D.Dial.went c.call_heeding.new.dial) c.loop-count._count
    (reference_of c.loop-count.at) (g.D.Dial.lines c.loop-count.dial) (g.D.Dial.lines c.call_heeding.new.dial)
    c.loop-count.invariant (Ok None) (omega arith) tt (rw c.in_default.is at c.in-Ok.ensures)

pub loop-count-preserved : goal.loop-count-preserved
loop-count-preserved g c =
    further (g.D.Dial.went c.args.dial.now) (asking c.args.request.now (given_by c.args.body) c.args.reads)
    (called_of c.args.wanted.now) (reference_of c.args.ior) (g.D.Dial.lines c.args.dial.now)
    (g.D.Dial.went c.loop-count.dial) (g.D.Dial.went c.call_heeding.new.dial) c.loop-count._count
    (reference_of c.loop-count.at) (g.D.Dial.lines c.loop-count.dial) (g.D.Dial.lines c.call_heeding.new.dial)
    c.loop-count.invariant c.in-Forwarded.next (rw (c.in-Some.is, c.in-Forwarded.is) at c.in-Ok.ensures)

pub returns-in-Err : goal.returns-in-Err
returns-in-Err g c =
    ended (g.D.Dial.went c.args.dial.now) (asking c.args.request.now (given_by c.args.body) c.args.reads)
    (called_of c.args.wanted.now) (reference_of c.args.ior) (g.D.Dial.lines c.args.dial.now)
    (g.D.Dial.went c.loop-count.dial) (g.D.Dial.went c.call_heeding.new.dial) c.loop-count._count
    (reference_of c.loop-count.at) (g.D.Dial.lines c.loop-count.dial) (g.D.Dial.lines c.call_heeding.new.dial)
    c.loop-count.invariant (Err c.in-Err.fault) (omega arith) tt c.in-Err.ensures

use Rattle.std.proofs.Common.{sym, ◌∙◌}
use Rattle.giop.specs.Made.{given_by}
use Rattle.reference_texts.specs.References.{reference_of}
use Rattle.call_client.specs.Talks.{asking}
use Rattle.call_commands.specs.Wanted.{called_of}
use Rattle.call_commands.proofs.Heeding.{heeded, unasked}
use Rattle.call_commands.proofs.followed_calls.heeded.call_heeding.Goals as goal

pub returns-in-Some : goal.returns-in-Some
returns-in-Some g c =
    heeded (g.D.Dial.went c.args.dial.now) (g.D.Dial.went c.call_twice-answered.new.dial)
    (g.D.Dial.went c.call_twice.new.dial) (asking c.args.request.now (given_by c.args.body) c.args.reads)
    (called_of c.args.wanted.now) (reference_of c.args.ior.now) (g.D.Dial.lines c.args.dial.now)
    (g.D.Dial.lines c.call_twice-answered.new.dial) (g.D.Dial.lines c.call_twice.new.dial)
    c.call_twice.result c.call_twice-answered.result c.in-Some.form (sym c.form_in.ensures ∙ c.in-Some.is)
    c.call_twice-answered.ensures c.call_twice.ensures

pub returns-in-None : goal.returns-in-None
returns-in-None g c =
    unasked (g.D.Dial.went c.args.dial.now) (g.D.Dial.went c.args.dial.now)
    (g.D.Dial.went c.call_twice-answered.new.dial)
    (asking c.args.request.now (given_by c.args.body) c.args.reads)
    (called_of c.args.wanted.now) (reference_of c.args.ior.now) (g.D.Dial.lines c.args.dial.now)
    (g.D.Dial.lines c.args.dial.now) (g.D.Dial.lines c.call_twice-answered.new.dial)
    c.call_twice-answered.result (sym c.form_in.ensures ∙ c.in-None.is) c.call_twice-answered.ensures

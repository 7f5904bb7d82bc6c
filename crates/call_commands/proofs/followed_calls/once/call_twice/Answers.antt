use Rattle.std.proofs.Common.{sym, ◌∙◌}
use Rattle.giop.specs.Made.{given_by}
use Rattle.reference_texts.specs.References.{reference_of}
use Rattle.call_client.specs.Talks.{asking}
use Rattle.call_commands.specs.Hops.{in_form}
use Rattle.call_commands.specs.Wanted.{called_of}
use Rattle.call_commands.proofs.Tries.{again}
use Rattle.call_commands.proofs.followed_calls.once.call_twice.Goals as goal

pub returns-then-is_closed : goal.returns-then-is_closed
returns-then-is_closed g c =
    again (g.D.Dial.went c.args.dial.now) (g.D.Dial.went c.call_once-called.new.dial)
    (g.D.Dial.went c.call_once.new.dial)
    (in_form c.args.form (asking c.args.request.now (given_by c.args.body) c.args.reads))
    (called_of c.args.wanted.now) (reference_of c.args.ior.now) (g.D.Dial.lines c.args.dial.now)
    (g.D.Dial.lines c.call_once-called.new.dial) (g.D.Dial.lines c.call_once.new.dial)
    c.call_once.result c.call_once-called.result (sym c.is_closed.ensures ∙ c.if-is_closed.true)
    c.call_once-called.ensures c.call_once.ensures

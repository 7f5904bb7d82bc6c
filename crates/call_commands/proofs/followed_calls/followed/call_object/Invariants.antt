use Rattle.giop.specs.Made.{given_by}
use Rattle.reference_texts.specs.References.{reference_of}
use Rattle.call_client.specs.Talks.{asking}
use Rattle.call_commands.specs.Wanted.{called_of}
use Rattle.call_commands.specs.inner.Underway.{IsUnderway}
use Rattle.call_commands.proofs.followed_calls.followed.call_object.Given as goal

abbrev pub invariant-loop-count : goal.invariant-loop-count
invariant-loop-count g l =
    IsUnderway (g.D.Dial.went l.initial.dial) (g.D.Dial.went l.dial) (asking l.request (given_by l.body) l.reads)
    (called_of l.wanted) (reference_of l.initial.at) (g.D.Dial.lines l.initial.dial) l._count (reference_of l.at)
    (g.D.Dial.lines l.dial)

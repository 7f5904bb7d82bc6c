use Rattle.std.proofs.Common.{rules, ap, ◌+◌, sym, ◌∙◌, Ok}
use Rattle.giop.specs.Made.{given_by}
use Rattle.reference_texts.specs.References.{reference_of}
use Rattle.reference_listing.specs.Listings.{iiop_of}
use Rattle.call_client.specs.Forms.{IsTarget, naming}
use Rattle.call_client.specs.Talks.{asking}
use Rattle.call_client.proofs.ByRows.{faulted, missed_one, passed, talked}
use Rattle.call_client.proofs.object_calls.reached.call_by.Goals as goal
use Rattle.call_client.proofs.object_calls.reached.call_by.Goals.{in-Iiop+in-Err, in-Other}

pub returns-in-Ok : goal.returns-in-Ok
returns-in-Ok g c =
    talked (g.D.Dial.went c.args.dial.now) (g.D.Dial.went c.loop-listed.dial) (g.D.Dial.went c.call_to.new.dial)
    c.args.profiles.now c.loop-listed.listed-index c.listed-item.result (search rules) c.listed-item.is
    (g.D.Dial.lines c.args.dial.now) (g.D.Dial.lines c.loop-listed.dial) (g.D.Dial.lines c.call_to.new.dial)
    c.loop-listed.invariant.vain
    (asking c.args.request.now (given_by c.args.body) c.args.reads)
    (naming c.args.form (reference_of c.args.ior.now)) c.loop-listed.place c.loop-listed.invariant.place
    c.in-Iiop.profile c.in-Iiop.is
    (Ok c.in-Ok.answer) c.in-Ok.ensures

pub returns-in-Err-2 : goal.returns-in-Err-2
returns-in-Err-2 g c =
    faulted (g.D.Dial.went c.args.dial.now) (g.D.Dial.went c.loop-listed.dial) (g.D.Dial.went c.call_to.new.dial)
    c.args.profiles.now c.loop-listed.listed-index c.listed-item.result (search rules) c.listed-item.is
    (g.D.Dial.lines c.args.dial.now) (g.D.Dial.lines c.loop-listed.dial) (g.D.Dial.lines c.call_to.new.dial)
    c.loop-listed.invariant.vain
    (asking c.args.request.now (given_by c.args.body) c.args.reads)
    (naming c.args.form (reference_of c.args.ior.now)) c.loop-listed.place c.loop-listed.invariant.place
    c.in-Iiop.profile c.in-Iiop.is
    c.in-Err.fault (sym c.is_missed.ensures ∙ c.if-is_missed.false) c.in-Err.ensures

pub loop-listed-preserved : goal.loop-listed-preserved
loop-listed-preserved g c = record {
  place = ap (λ n. n + 1) c.loop-listed.invariant.place;
  vain = elim c.match-listed.branch [
    | in-Iiop+in-Err w ↦ rw w.dial-is
        (missed_one (g.D.Dial.went c.args.dial.now) (g.D.Dial.went c.loop-listed.dial)
        (g.D.Dial.went w.call_to.new.dial)
        c.args.profiles.now c.loop-listed.listed-index c.listed-item.result (search rules) c.listed-item.is
        (g.D.Dial.lines c.args.dial.now) (g.D.Dial.lines c.loop-listed.dial) (g.D.Dial.lines w.call_to.new.dial)
        c.loop-listed.invariant.vain (asking c.args.request.now (given_by c.args.body) c.args.reads)
        (IsTarget (naming c.args.form (reference_of c.args.ior.now)) c.loop-listed.place (iiop_of w.in-Iiop.profile))
        w.in-Iiop.profile w.in-Iiop.is w.in-Err.fault (sym w.is_missed.ensures ∙ w.if-is_missed.true) w.in-Err.ensures)
    | in-Other w ↦ rw w.dial-is
        (passed (g.D.Dial.went c.args.dial.now) (g.D.Dial.went c.loop-listed.dial) (g.D.Dial.went c.loop-listed.dial)
        c.args.profiles.now c.loop-listed.listed-index c.listed-item.result (search rules) c.listed-item.is
        (g.D.Dial.lines c.args.dial.now) (g.D.Dial.lines c.loop-listed.dial) (g.D.Dial.lines c.loop-listed.dial)
        c.loop-listed.invariant.vain w.in-Other.tag w.in-Other.octets w.in-Other.is)
  ];
}

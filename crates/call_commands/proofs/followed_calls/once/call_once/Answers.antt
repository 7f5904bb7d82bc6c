use Rattle.std.proofs.Common.{List, subst, sym}
use Rattle.giop.specs.Made.{given_by}
use Rattle.reference_texts.specs.References.{reference_of}
use Rattle.reference_listing.specs.declared.listing.ListedProfile.{ListedProfile}
use Rattle.reference_listing.specs.Listings.{AreRows, rows_of}
use Rattle.call_client.specs.Talks.{asking}
use Rattle.call_commands.specs.Hops.{in_form}
use Rattle.call_commands.specs.Wanted.{called_of}
use Rattle.call_commands.proofs.Hops.{answered, sent, unanswered, undone}
use Rattle.call_commands.proofs.followed_calls.once.call_once.Goals as goal

pub returns-in-Some : goal.returns-in-Some
returns-in-Some g c =
    answered (g.D.Dial.went c.args.dial.now) (g.D.Dial.went c.call_by.new.dial)
    (in_form c.args.form (asking c.args.request.now (given_by c.args.body) c.args.reads)) (called_of c.args.wanted.now)
    (reference_of c.args.ior.now)
    (rows_of c.as_slice.result.now) (g.D.Dial.lines c.args.dial.now) (g.D.Dial.lines c.call_by.new.dial)
    c.in-Some.answer c.outcome_of.result
    (subst (λ (ps : List ListedProfile). AreRows (reference_of c.args.ior.now).profiles (rows_of ps))
    (sym c.as_slice.ensures.value) c.in-Ok.ensures.rows_are) (rw c.in-Some.is at c.in-Ok-call_by.ensures)
    c.outcome_of.ensures

pub returns : goal.returns
returns g c =
    sent (g.D.Dial.went c.args.dial.now) (g.D.Dial.went c.call_by.new.dial)
    (in_form c.args.form (asking c.args.request.now (given_by c.args.body) c.args.reads)) (called_of c.args.wanted.now)
    (reference_of c.args.ior.now)
    (rows_of c.as_slice.result.now) (g.D.Dial.lines c.args.dial.now) (g.D.Dial.lines c.call_by.new.dial)
    (subst (λ (ps : List ListedProfile). AreRows (reference_of c.args.ior.now).profiles (rows_of ps))
    (sym c.as_slice.ensures.value) c.in-Ok.ensures.rows_are) (rw c.in-None.is at c.in-Ok-call_by.ensures)

pub returns-in-Err-call_by : goal.returns-in-Err-call_by
returns-in-Err-call_by g c =
    unanswered (g.D.Dial.went c.args.dial.now) (g.D.Dial.went c.call_by.new.dial)
    (in_form c.args.form (asking c.args.request.now (given_by c.args.body) c.args.reads)) (called_of c.args.wanted.now)
    (reference_of c.args.ior.now)
    (rows_of c.as_slice.result.now) (g.D.Dial.lines c.args.dial.now) (g.D.Dial.lines c.call_by.new.dial)
    c.in-Err-call_by.fault
    (subst (λ (ps : List ListedProfile). AreRows (reference_of c.args.ior.now).profiles (rows_of ps))
    (sym c.as_slice.ensures.value) c.in-Ok.ensures.rows_are) c.in-Err-call_by.ensures

pub returns-in-Err : goal.returns-in-Err
returns-in-Err g c =
    undone (g.D.Dial.went c.args.dial.now)
    (in_form c.args.form (asking c.args.request.now (given_by c.args.body) c.args.reads)) (called_of c.args.wanted.now)
    (reference_of c.args.ior.now) (g.D.Dial.lines c.args.dial.now)

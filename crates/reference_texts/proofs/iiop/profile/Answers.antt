use Rattle.std.proofs.Common.{◌∙◌}
use Rattle.std.proofs.lemmas.Result.{IfOk-weaker}
use Rattle.reference_texts.proofs.Faults.{err_weaker, writing_refused}
use Rattle.reference_texts.proofs.ProfileTapes.{fitting_host, fitting_key, profile_written, profile_unwritten}
use Rattle.reference_texts.proofs.iiop.profile.Goals as goal

pub returns-in-Ok-clause-written : goal.returns-in-Ok-clause-written
returns-in-Ok-clause-written c =
    IfOk-weaker c.write_encapsulation.result _ _
    (λ octets w. profile_written c.args.host.now c.args.port c.args.key.now c.as_slice.result.now octets.items
    c.in-Ok.ensures.host c.ranges.port.fits c.in-Ok.ensures.key (c.as_slice.ensures.value ∙ c.in-Ok.ensures.tape) w)
    c.write_encapsulation.ensures.written

pub returns-in-Ok-clause-refused : goal.returns-in-Ok-clause-refused
returns-in-Ok-clause-refused c =
    err_weaker c.write_encapsulation.result _ _
    (λ none octets is. none octets
    (profile_unwritten c.args.host.now c.args.port c.args.key.now c.as_slice.result.now octets
    (c.as_slice.ensures.value ∙ c.in-Ok.ensures.tape) is)) c.write_encapsulation.ensures.refused

pub returns-in-Err-clause-refused : goal.returns-in-Err-clause-refused
returns-in-Err-clause-refused c =
    writing_refused c.in-Err.fault c.from.result _ _ c.from.ensures
    (λ none octets is. none (fitting_host c.args.host.now c.args.port c.args.key.now is.written.holds.fits)
    (fitting_key c.args.host.now c.args.port c.args.key.now is.written.holds.fits)) c.in-Err.ensures.refused

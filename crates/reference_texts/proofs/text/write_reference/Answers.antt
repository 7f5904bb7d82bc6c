use Rattle.std.proofs.Common.{ap, ◌++◌, ◌∙◌}
use Rattle.std.proofs.lemmas.Result.{IfOk-weaker}
use Rattle.reference_texts.specs.References.{reference_of, reference_tape}
use Rattle.reference_texts.proofs.Faults.{err_weaker, writing_refused}
use Rattle.reference_texts.proofs.ReferenceTapes.{fitting, reference_written, reference_unwritten}
use Rattle.reference_texts.proofs.text.write_reference.Goals as goal

pub returns-in-Ok-clause-written : goal.returns-in-Ok-clause-written
returns-in-Ok-clause-written c =
    let reference = reference_of c.args.ior.now in
    let tape = c.as_slice.ensures.value ∙ c.in-Ok.ensures.added
    ∙ ap (λ l. l ++ reference_tape reference) c.new-tape.ensures.items in
    IfOk-weaker c.write_encapsulation.result _ _
    (λ octets w. reference_written reference c.as_slice.result.now octets.items c.in-Ok.ensures.fits tape w)
    c.write_encapsulation.ensures.written

pub returns-in-Ok-clause-refused : goal.returns-in-Ok-clause-refused
returns-in-Ok-clause-refused c =
    let reference = reference_of c.args.ior.now in
    let tape = c.as_slice.ensures.value ∙ c.in-Ok.ensures.added
    ∙ ap (λ l. l ++ reference_tape reference) c.new-tape.ensures.items in
    err_weaker c.write_encapsulation.result _ _
    (λ none octets w. none octets (reference_unwritten reference c.as_slice.result.now octets tape w))
    c.write_encapsulation.ensures.refused

pub returns-clause-refused : goal.returns-clause-refused
returns-clause-refused c =
    writing_refused c.in-Err.fault c.from.result _ _ c.from.ensures
    (λ none octets w. none (fitting (reference_of c.args.ior.now) w.holds.fits)) c.in-Err.ensures.refused

use Rattle.std.proofs.Common.{◌∙◌, subst, sym, ap, arith}
use Rattle.std.proofs.lemmas.Result.{err_from_is_err_and}
use Rattle.name_table.specs.Entries.{latest}
use Rattle.name_steps.specs.Steps.{steps_of}
use Rattle.scoped_names.specs.Faults.{left_open, never_defined, nothing_yet, steps_read}
use Rattle.scoped_names.specs.Reading.{StateOrFault, Tells, passed, ◌>>◌}
use Rattle.scoped_names.specs.inner.Rising.{Rises}
use Rattle.scoped_names.proofs.Readings.{checked_then, or_told}
use Rattle.scoped_names.proofs.Rising.{rising}
use Rattle.scoped_names.proofs.reader.Reader.read_whole.Goals as goal

-- what comes of the steps
abbrev finished : StateOrFault → StateOrFault
finished r = r >> λ st. passed st (never_defined (left_open st 0 st.entries))

pub read_definitions-requires : goal.read_definitions-requires
read_definitions-requires c =
    let spec = c.args.spec.now in
    let begun = ap (λ st. latest st.entries) c.requires in
    subst (λ m. Rises m (steps_of c.as_slice.result.now)) (sym begun)
    (subst (λ ds. Rises 0 (steps_of ds)) (sym c.as_slice.ensures.value) (rising spec))

pub returns-in_err-read_definitions : goal.returns-in_err-read_definitions
returns-in_err-read_definitions c =
    let p = err_from_is_err_and c.from_residual.result c.from_residual.ensures.1 in
    let begun = ap (λ st. steps_read st (steps_of c.as_slice.result.now)) c.requires
    ∙ ap (λ ds. steps_read nothing_yet (steps_of ds)) c.as_slice.ensures.value in
    rw (p.1, p.2) (or_told c.in_err-read_definitions.ensures (λ is. ap finished (sym begun ∙ is)))

pub returns : goal.returns
returns c =
    let st = c.read_definitions.new.self in
    let begun = ap (λ st. steps_read st (steps_of c.as_slice.result.now)) c.requires
    ∙ ap (λ ds. steps_read nothing_yet (steps_of ds)) c.as_slice.ensures.value in
    subst (Tells c.all_defined.result st) (sym (ap finished (sym begun ∙ c.in_ok-read_definitions.ensures)))
    (checked_then c.all_defined.result (never_defined (left_open st 0 st.entries)) st c.all_defined.ensures)

-- Faults of what is called, as faults here.
use Rattle.std.proofs.Common.{◌≡◌, Result, Ok, Err, IfErr, sym, subst}
use Rattle.std.specs.Bool.{OnFalse}
use Rattle.program_steps.specs.declared.fault.RunFault.{RunFault}
use Rattle.program_steps.specs.declared.fault.RunFault.TheVariants as runs
use Rattle.program_runner.specs.Refusal.{wants_memory as run_wants_memory}
use Rattle.giop_types.specs.declared.tapes.fault.TapeFault.{TapeFault}
use Rattle.giop_types.specs.declared.tapes.fault.TapeFault.TheVariants as tapes
use Rattle.giop_types.specs.TapeRefusal.{RefusesReading, RefusesWriting}
use Rattle.reference_texts.specs.declared.fault.ReferenceFault.{ReferenceFault}
use Rattle.reference_texts.specs.declared.fault.ReferenceFault.TheVariants as faults
use Rattle.reference_texts.specs.Refusal.{wants_memory, of_run, of_tape}
use Rattle.type_graph.proofs.Refusals.{only_if_weaker}

pub err_weaker : {X : Type 0} (r : Result X ReferenceFault) (P Q : Type 0) → (P → Q)
    → IfErr r (λ fault. OnFalse (wants_memory fault) P) → IfErr r (λ fault. OnFalse (wants_memory fault) Q)
err_weaker (Ok x) P Q f h = tt
err_weaker (Err fault) P Q f h = only_if_weaker (wants_memory fault) P Q f h

-- a run
by_run : (run : RunFault) (P Q : Type 0) → (P → Q) → OnFalse (run_wants_memory run) P
    → OnFalse (wants_memory (of_run run)) Q
by_run runs.NoMemory P Q f h = tt
by_run runs.Short P Q f h = f h
by_run runs.BadBool P Q f h = f h
by_run runs.BadEnum P Q f h = f h
by_run runs.BadLength P Q f h = f h
by_run runs.NoTerminator P Q f h = f h
by_run runs.ZeroInside P Q f h = f h
by_run runs.OverBound P Q f h = f h
by_run runs.TooDeep P Q f h = f h
by_run runs.TapeLeft P Q f h = f h

pub run_refused : (run : RunFault) (fault : ReferenceFault) (P Q : Type 0) → fault ≡ of_run run → (P → Q)
    → OnFalse (run_wants_memory run) P → OnFalse (wants_memory fault) Q
run_refused run fault P Q e f h =
    subst (λ (x : ReferenceFault). OnFalse (wants_memory x) Q) (sym e) (by_run run P Q f h)

-- a tape that isn't written
by_writing : (tape : TapeFault) (P Q : Type 0) → (P → Q) → RefusesWriting tape P
    → OnFalse (wants_memory (of_tape tape)) Q
by_writing tapes.NoMemory P Q f h = tt
by_writing tapes.TooLong P Q f h = f h
by_writing tapes.NotATape P Q f h = absurd h

pub writing_refused : (tape : TapeFault) (fault : ReferenceFault) (P Q : Type 0) → fault ≡ of_tape tape → (P → Q)
    → RefusesWriting tape P → OnFalse (wants_memory fault) Q
writing_refused tape fault P Q e f h =
    subst (λ (x : ReferenceFault). OnFalse (wants_memory x) Q) (sym e) (by_writing tape P Q f h)

-- a tape that isn't read
by_reading : (tape : TapeFault) (P Q : Type 0) → (P → Q) → RefusesReading tape P
    → OnFalse (wants_memory (of_tape tape)) Q
by_reading tapes.NoMemory P Q f h = tt
by_reading tapes.NotATape P Q f h = f h
by_reading tapes.TooLong P Q f h = absurd h

pub reading_refused : (tape : TapeFault) (fault : ReferenceFault) (P Q : Type 0) → fault ≡ of_tape tape → (P → Q)
    → RefusesReading tape P → OnFalse (wants_memory fault) Q
reading_refused tape fault P Q e f h =
    subst (λ (x : ReferenceFault). OnFalse (wants_memory x) Q) (sym e) (by_reading tape P Q f h)

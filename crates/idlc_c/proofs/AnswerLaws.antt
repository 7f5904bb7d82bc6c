-- What a number says of the answer behind it.
use Rattle.std.proofs.Common.{ℕ, ◌≤◌, arith}
use Rattle.std.specs.Bool.{OnFalse}
use Rattle.std.specs.Prelude.{Result, Ok, Err, IfErr}
use Rattle.program_steps.specs.declared.fault.RunFault.{RunFault}
use Rattle.program_steps.specs.declared.fault.RunFault.TheVariants as runs
use Rattle.program_runner.specs.Refusal.{wants_memory}
use Rattle.idlc_c.specs.declared.refusal.Refusal.{Refusal}
use Rattle.idlc_c.specs.declared.refusal.Refusal.TheVariants.{NoMemory, NotLoaded, NotNamed, NoRoom, TooLong, NoTable, NotRight, NoValue, NoText}
use Rattle.idlc_c.specs.Numbers.{number_of_run, number_of_answer}
use Rattle.idlc_c.specs.Answers.{RefusesValue}

pub run_none : {V : Type 0} (fault : RunFault) → 60 ≤ number_of_run fault → OnFalse (wants_memory fault) V → V
run_none runs.Short e s = s
run_none runs.BadBool e s = s
run_none runs.BadEnum e s = s
run_none runs.BadLength e s = s
run_none runs.NoTerminator e s = s
run_none runs.ZeroInside e s = s
run_none runs.OverBound e s = s
run_none runs.TooDeep e s = s
run_none runs.TapeLeft e s = s
run_none runs.NoMemory e s = absurd (omega (arith, e))

-- a number of 60 and more says that there is no value
pub none_of : {A : Type 0} (U : Type 0) (L : ℕ → Type 0) (V : Type 0) (answer : Result A Refusal)
    → 60 ≤ number_of_answer answer → IfErr answer (RefusesValue U L V) → V
none_of U L V (Ok n) e s = absurd (omega (arith, e))
none_of U L V (Err NoMemory) e s = absurd (omega (arith, e))
none_of U L V (Err NotNamed) e s = absurd (omega (arith, e))
none_of U L V (Err (NoRoom needed)) e s = absurd (omega (arith, e))
none_of U L V (Err (NoValue fault)) e s = run_none fault e s
none_of U L V (Err NotLoaded) e s = absurd s
none_of U L V (Err TooLong) e s = absurd s
none_of U L V (Err (NoTable fault)) e s = absurd s
none_of U L V (Err (NotRight fault)) e s = absurd s
none_of U L V (Err (NoText unsaid)) e s = absurd s

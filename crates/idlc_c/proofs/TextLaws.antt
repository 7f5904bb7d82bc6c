-- What a number says of an answer about a text.
use Rattle.std.proofs.Common.{◌≡◌, inl, inr, ℕ, ◌<◌, ◌≤◌, refl, arith}
use Rattle.std.specs.Prelude.{Result, Ok, Err, IfErr}
use Rattle.program_steps.specs.declared.fault.RunFault.{RunFault}
use Rattle.program_steps.specs.declared.fault.RunFault.TheVariants as runs
use Rattle.value_text.specs.declared.fault.Wanted.{Wanted}
use Rattle.value_text.specs.declared.fault.Wanted.TheVariants as wanted
use Rattle.idlc_c.specs.declared.refusal.Refusal.{Refusal}
use Rattle.idlc_c.specs.declared.refusal.Refusal.TheVariants.{NoMemory, NotLoaded, NotNamed, NoRoom, TooLong, NoTable, NotRight, NoValue, NoText}
use Rattle.idlc_c.specs.declared.source_place.SourcePlace.{SourcePlace}
use Rattle.idlc_c.specs.Numbers.{number_of_run, number_of_text, number_of_answer, place_told}
use Rattle.idlc_c.specs.Answers.{IsOfValue}
use Rattle.idlc_c.specs.TextAnswers.{IsOfText, RefusesSaid}
use Rattle.idlc_c.proofs.AnswerLaws.{run_none}

text_number : (wanted : Wanted) → (110 ≤ number_of_text wanted) × (number_of_text wanted ≤ 124)
text_number wanted.Json = (omega arith, omega arith)
text_number wanted.Whole = (omega arith, omega arith)
text_number wanted.Boolean = (omega arith, omega arith)
text_number wanted.Char = (omega arith, omega arith)
text_number wanted.Text = (omega arith, omega arith)
text_number wanted.Enumerator = (omega arith, omega arith)
text_number wanted.Digits = (omega arith, omega arith)
text_number wanted.List = (omega arith, omega arith)
text_number wanted.Members = (omega arith, omega arith)
text_number wanted.Member = (omega arith, omega arith)
text_number wanted.OtherMember = (omega arith, omega arith)
text_number wanted.AllMembers = (omega arith, omega arith)
text_number wanted.Count = (omega arith, omega arith)
text_number wanted.Depth = (omega arith, omega arith)
text_number wanted.End = (omega arith, omega arith)

run_number : (fault : RunFault) → IsOfValue (number_of_run fault)
run_number runs.Short = inr (omega arith, omega arith)
run_number runs.BadBool = inr (omega arith, omega arith)
run_number runs.BadEnum = inr (omega arith, omega arith)
run_number runs.BadLength = inr (omega arith, omega arith)
run_number runs.NoTerminator = inr (omega arith, omega arith)
run_number runs.ZeroInside = inr (omega arith, omega arith)
run_number runs.OverBound = inr (omega arith, omega arith)
run_number runs.TooDeep = inr (omega arith, omega arith)
run_number runs.TapeLeft = inr (omega arith, omega arith)
run_number runs.NoMemory = inl (inr (omega arith, omega arith))

run_below : (number : ℕ) → IsOfValue number → number < 110
run_below number (inl (inl none)) = omega (arith, none)
run_below number (inl (inr own)) = omega (arith, own.1)
run_below number (inr high) = omega (arith, high.1)

module _ (U : Type 0) (L : ℕ → Type 0) (V W : Type 0) where
  -- a number of 60 to 68 says that the value has no octets, or the octets have no value
  pub said_none : (answer : Result ℕ Refusal) → 60 ≤ number_of_answer answer → number_of_answer answer ≤ 68
      → IfErr answer (RefusesSaid U L V W) → V
  said_none (Ok n) many most s = absurd (omega (arith, many))
  said_none (Err NoMemory) many most s = absurd (omega (arith, many))
  said_none (Err NotNamed) many most s = absurd (omega (arith, many))
  said_none (Err (NoRoom needed)) many most s = absurd (omega (arith, many))
  said_none (Err (NoValue fault)) many most s = run_none fault many s
  said_none (Err (NoText unsaid)) many most s = absurd (omega (arith, (text_number unsaid.wanted).0, most))
  said_none (Err NotLoaded) many most s = absurd s
  said_none (Err TooLong) many most s = absurd s
  said_none (Err (NoTable fault)) many most s = absurd s
  said_none (Err (NotRight fault)) many most s = absurd s

  -- one of 110 and more that the text says no value, and the place is told
  pub unsaid : (answer : Result ℕ Refusal) (old : SourcePlace) → 110 ≤ number_of_answer answer
      → IfErr answer (RefusesSaid U L V W) → W × ((place_told answer old).number ≡ number_of_answer answer)
  unsaid (Ok n) old many s = absurd (omega (arith, many))
  unsaid (Err NoMemory) old many s = absurd (omega (arith, many))
  unsaid (Err NotNamed) old many s = absurd (omega (arith, many))
  unsaid (Err (NoRoom needed)) old many s = absurd (omega (arith, many))
  unsaid (Err (NoValue fault)) old many s = absurd (omega (arith, run_below _ (run_number fault), many))
  unsaid (Err (NoText fault)) old many s = (s, refl)
  unsaid (Err NotLoaded) old many s = absurd s
  unsaid (Err TooLong) old many s = absurd s
  unsaid (Err (NoTable fault)) old many s = absurd s
  unsaid (Err (NotRight fault)) old many s = absurd s

  pub of_text : (answer : Result ℕ Refusal) → IfErr answer (RefusesSaid U L V W) → IsOfText (number_of_answer answer)
  of_text (Ok n) s = inl (inl (inl refl))
  of_text (Err NoMemory) s = inl (inl (inr (omega arith, omega arith)))
  of_text (Err NotNamed) s = inl (inl (inr (omega arith, omega arith)))
  of_text (Err (NoRoom needed)) s = inl (inl (inr (omega arith, omega arith)))
  of_text (Err (NoValue fault)) s = inl (run_number fault)
  of_text (Err (NoText fault)) s = inr (text_number fault.wanted)
  of_text (Err NotLoaded) s = absurd s
  of_text (Err TooLong) s = absurd s
  of_text (Err (NoTable fault)) s = absurd s
  of_text (Err (NotRight fault)) s = absurd s

-- with a lower number no place is told
pub untold : (answer : Result ℕ Refusal) (old : SourcePlace) → number_of_answer answer < 110
    → place_told answer old ≡ old
untold (Ok n) old few = refl
untold (Err NoMemory) old few = refl
untold (Err NotNamed) old few = refl
untold (Err (NoRoom needed)) old few = refl
untold (Err (NoValue fault)) old few = refl
untold (Err (NoText fault)) old few = absurd (omega (arith, (text_number fault.wanted).0, few))
untold (Err NotLoaded) old few = refl
untold (Err TooLong) old few = refl
untold (Err (NoTable fault)) old few = refl
untold (Err (NotRight fault)) old few = refl

-- Tapes and what is printed of them.
use Rattle.idlc_c.specs.declared.refusal.Refusal.{Refusal}
use Rattle.idlc_c.specs.TextAnswers.{RefusesSaid}

-- want of memory, or there is no value
abbrev pub RefusesRun : Type 0 → Refusal → Type 0
RefusesRun none = RefusesSaid ⊥ (λ _. ⊥) none ⊥

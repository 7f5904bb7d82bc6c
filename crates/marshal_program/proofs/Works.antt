-- Which routines take an octet, marked by their numbers.
use Rattle.std.proofs.Common.{◌≡◌, ◌↔◌, ◌∙◌, ◌<◌, ◌≤◌, ◌+◌, ℕ, zero, suc, Bool, false, IsTrue, List, [], ◌∷◌, length, get_or, set, replicate, Some, All, refl, sym, ap, subst, inl, inr, arith}
use Rattle.std.specs.Prelude.{slice_get, IsSomeAnd}
use Rattle.std.specs.List.{list_any}
use Rattle.std.proofs.lemmas.Bool.{cases_eq, true≢false}
use Rattle.std.proofs.lemmas.List.{get_or-set_same, get_or-set_other}
use Rattle.std.proofs.lemmas.List.Elements.{All-weaker}
use Rattle.std.proofs.lemmas.Option.{slice_get_read}
use Rattle.marshal_program.specs.declared.instr.Instr.{Instr}
use Rattle.marshal_program.specs.declared.instr.Routine.{Routine}
use Rattle.marshal_program.specs.ProgramRules.{TakesOctet, is_work, named_by}
use Rattle.marshal_program.specs.inner.RuleTests.{AreWorks, IsMarked, NamesMarked, NamesWork}

-- the first are marked
pub record MarkedUpTo (program : List Routine) (works : List Bool) (place : ℕ) : Type 0 where
  pub each : (number : ℕ) → IsMarked works number ↔ ((number < place) × TakesOctet program number)

pub none_marked_yet : (program : List Routine) (works : List Bool) → ((number : ℕ) → IsMarked works number → ⊥)
    → MarkedUpTo program works 0
none_marked_yet program works none =
    record {
      each = λ number. (λ marked. absurd (none number marked), λ h. let low = h.0 in absurd (omega (arith, low)));
    }

-- one more
abbrev takes : Routine → Type 0
takes routine = IsTrue (list_any is_work routine.code)

pub marked_more : (program : List Routine) (works : List Bool) (place : ℕ) (routine : Routine) (b : Bool)
    → place < length program → place < length works
    → routine ≡ get_or program place routine → b ≡ list_any is_work routine.code → MarkedUpTo program works place
    → MarkedUpTo program (set works place b) (place + 1)
marked_more program works place routine b within room is says m = record {
  each = λ number. elim (cases_eq number place) [
    | inl same ↦
        let now : get_or (set works place b) number false ≡ b = ap (λ k. get_or (set works place b) k false) same
        ∙ get_or-set_same works place b false room in
        let here : slice_get program number ≡ Some routine = ap (slice_get program) same
        ∙ slice_get_read program (length program) place routine refl within is in (
          λ marked. (omega (arith, same), subst (λ o. IsSomeAnd o takes) (sym here) (sym says ∙ sym now ∙ marked)),
          λ h. let it : takes routine = subst (λ o. IsSomeAnd o takes) here h.1 in now ∙ says ∙ it,
        )
    | inr other ↦
        let stays : get_or (set works place b) number false ≡ get_or works number false =
        get_or-set_other works place number b false other in (
          λ marked. let old = (m.each number).0 (sym stays ∙ marked) in let low = old.0 in (omega (arith, low), old.1),
          λ h. let low = h.0 in stays ∙ (m.each number).1 (omega (arith, low, other), h.1),
        )
  ];
}

takes_within : (program : List Routine) (number : ℕ) → TakesOctet program number → number < length program
takes_within [] number t = absurd t
takes_within (routine ∷ more) zero t = omega arith
takes_within (routine ∷ more) (suc number) t = let low = takes_within more number t in omega (arith, low)

-- all of them
pub all_marked : (program : List Routine) (works : List Bool) (place : ℕ) → length program ≤ place
    → MarkedUpTo program works place → AreWorks program works
all_marked program works place past m = λ number. (
  λ marked. ((m.each number).0 marked).1,
  λ t. let low = takes_within program number t in (m.each number).1 (omega (arith, low, past), t),
)

-- at the start
pub none_marked : (n number : ℕ) → IsMarked (replicate n false) number → ⊥
none_marked zero number marked = absurd (true≢false (sym marked))
none_marked (suc n) zero marked = absurd (true≢false (sym marked))
none_marked (suc n) (suc number) marked = none_marked n number marked

named_so : (P Q : ℕ → Type 0) → ((number : ℕ) → P number → Q number) → (program : List Routine)
    → All (λ routine. All (λ instr. All P (named_by instr)) routine.code) program
    → All (λ routine. All (λ instr. All Q (named_by instr)) routine.code) program
named_so P Q step program all =
    All-weaker (λ (routine : Routine). All (λ instr. All P (named_by instr)) routine.code)
    (λ (routine : Routine). All (λ instr. All Q (named_by instr)) routine.code)
    (λ routine. All-weaker (λ (instr : Instr). All P (named_by instr)) (λ (instr : Instr). All Q (named_by instr))
    (λ instr. All-weaker P Q step (named_by instr)) routine.code)
    program all

-- what names marked routines names those that take an octet
pub marked_work : (program : List Routine) (works : List Bool) → AreWorks program works
    → All (NamesMarked works) program ↔ All (NamesWork program) program
marked_work program works noted = (
  named_so (IsMarked works) (TakesOctet program) (λ number. (noted number).0) program,
  named_so (TakesOctet program) (IsMarked works) (λ number. (noted number).1) program,
)

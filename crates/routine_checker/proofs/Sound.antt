-- A program that is accepted is right: the claim holds at the end of each code, so at its start; then by the depth of
-- values and within that by ranks.
use Rattle.std.proofs.Common.{◌≡◌, ℕ, zero, suc, ◌+◌, ◌-◌, ◌%◌, ◌^◌, ◌<◌, ◌≤◌, Bool, true, false, List, [], ◌∷◌, length, All, Option, Some, None, Result, Ok, Err, slice_get, slice_index_or, if◌then◌else◌, refl, sym, subst, ◌∙◌, inl, inr, arith}
use Rattle.std.specs.Prelude.{IfOk, ltb}
use Rattle.std.proofs.lemmas.Bool.{cases_lt}
use Rattle.std.proofs.lemmas.Result.{IfOk-weaker}
use Rattle.std.proofs.lemmas.Option.{none-some, same_Some, slice_get_within, get_or_from_slice_get}
use Rattle.std.proofs.lemmas.List.Elements.{All-head, All-tail}
use Rattle.type_graph.specs.declared.width.Width.TheVariants.{One}
use Rattle.type_graph.specs.declared.node.Node.{Node}
use Rattle.type_graph.specs.Words.{Format}
use Rattle.type_graph.specs.Relation.{Nothing, Chain}
use Rattle.type_graph.specs.Comparison.{Positions, Same, Ends}
use Rattle.type_graph.specs.Encoding.{Means}
use Rattle.type_graph.specs.GraphRules.{IsGraph}
use Rattle.type_graph.proofs.RelationLaws.{same_sym, same_trans, same_at, same_ends, then_nothing, nothing_ends}
use Rattle.type_graph.proofs.AtomLaws.{no_gap_one}
use Rattle.type_graph.proofs.Openings.{gap_one_then}
use Rattle.marshal_program.specs.declared.instr.Instr.{Instr}
use Rattle.marshal_program.specs.declared.instr.Routine.{Routine}
use Rattle.marshal_program.specs.Does.{Does, Runs, code_of}
use Rattle.marshal_program.specs.ProgramRules.{IsRoutine, IsProgram}
use Rattle.marshal_program.proofs.RunLaws.{runs_opened}
use Rattle.routine_checker.specs.declared.fault.RoutinePlace.{RoutinePlace}
use Rattle.routine_checker.specs.declared.fault.CheckFault.{CheckFault}
use Rattle.routine_checker.specs.declared.fault.CheckFault.TheVariants.{WrongWork, WrongPadding, ExitsTooSmall}
use Rattle.routine_checker.specs.Sets.{has, Among, is_within, gaps_agree}
use Rattle.routine_checker.specs.Taking.{is_done_within}
use Rattle.routine_checker.specs.Steps.{Judged, step, followed_by, followed, end_fault, ended, entry_fault, or_else, entries_fault, routine_fault, routines_fault, program_fault, place_of}
use Rattle.routine_checker.specs.Right.{AreRight}
use Rattle.routine_checker.proofs.SetLaws.{has_place, within_among, among_place}
use Rattle.routine_checker.proofs.GapLaws.{gaps_same}
use Rattle.routine_checker.proofs.Claim.{IsRightAt, Assumes, Claim}
use Rattle.routine_checker.proofs.TakenLaws.{done_means}
use Rattle.routine_checker.proofs.StepLaws.{IsRightStep, step_claim}
use Rattle.routine_checker.proofs.InstrPieces.{right_step}

-- ---- from the end of a code to its start

-- all three tests at the end passed
end_tests : (done padded within : Bool) (at : RoutinePlace) (n entry : ℕ)
    → end_fault done padded within at n entry ≡ None → (done ≡ true) × (padded ≡ true) × (within ≡ true)
end_tests false padded within at n entry e = absurd (none-some (WrongWork at n) (sym e))
end_tests true false within at n entry e = absurd (none-some (WrongPadding at n) (sym e))
end_tests true true false at n entry e = absurd (none-some (ExitsTooSmall at entry) (sym e))
end_tests true true true at n entry e = (refl, refl, refl)

module _ (graph : List Node) (program : List Routine) (format : Format) (depth : ℕ) where
  -- where nothing is left, no gap is made and the positions are among the exits, the claim holds of no instructions
  end_claim : (exits : ℕ) (state : Judged) → is_done_within 64 graph state.work ≡ true
      → gaps_agree state.places state.gap One ≡ true → is_within state.places exits ≡ true
      → Claim graph program format depth (Among exits) [] state
  end_claim exits state done padded within =
      let nothing : Same (Among state.places) Nothing (Chain (Means graph format depth) state.work) =
      same_at (same_sym ((done_means graph 64 state.work done).same format depth)) in
      record {
        same = same_trans then_nothing
            (same_trans (gaps_same state.places state.gap One padded) (same_trans no_gap_one nothing));
        ends = same_ends nothing
            (record {
              at = λ p t x s r. within_among state.places exits within (p + length x)
                  ((nothing_ends {S = Among state.places}).at p t x s r);
            });
      }

  -- what is claimed at the end of instructions that were followed is claimed at their start
  followed_claim : (X : Positions) (at : RoutinePlace) (n : ℕ) (code : List Instr) (state : Judged)
      → All (IsRightStep graph program format depth) code
      → IfOk (followed graph program at n code state) (λ last. Claim graph program format depth X [] last
      → Claim graph program format depth X code state)
  followed_claim X at n [] state right = λ claim. claim
  followed_claim X at n (this ∷ code) state right =
      by_step (step graph program at n this state) refl
      (λ next. followed_claim X at (suc n) code next
      (All-tail (IsRightStep graph program format depth) this code right))
    where
      by_step : (result : Result Judged CheckFault) → step graph program at n this state ≡ result
          → ((next : Judged) → IfOk (followed graph program at (suc n) code next)
          (λ last. Claim graph program format depth X [] last → Claim graph program format depth X code next))
          → IfOk (followed_by (followed graph program at (suc n) code) result)
          (λ last. Claim graph program format depth X [] last
          → Claim graph program format depth X (this ∷ code) state)
      by_step (Err stop) e ih = tt
      by_step (Ok next) e ih =
          IfOk-weaker (followed graph program at (suc n) code next)
          (λ last. Claim graph program format depth X [] last → Claim graph program format depth X code next)
          (λ last. Claim graph program format depth X [] last
          → Claim graph program format depth X (this ∷ code) state)
          (λ last ih claim. step_claim graph program format depth X at n this code state next
          (All-head (IsRightStep graph program format depth) this code right) e (ih claim)) (ih next)

  -- where a routine ends well, what is claimed at its start holds
  ended_claim : (X : Type 0) (at : RoutinePlace) (routine : Routine) (entry : ℕ) (result : Result Judged CheckFault)
      → ended graph at routine entry result ≡ None
      → IfOk result (λ last. Claim graph program format depth (Among (slice_index_or routine.exits entry 0)) [] last
      → X) → X
  ended_claim X at routine entry (Err fault) e claim = absurd (none-some fault (sym e))
  ended_claim X at routine entry (Ok last) e claim =
      let exits = slice_index_or routine.exits entry 0 in
      let tests = end_tests (is_done_within 64 graph last.work) (gaps_agree last.places last.gap One)
      (is_within last.places exits) at (length routine.code) entry e in
      claim (end_claim exits last tests.0 tests.1 tests.2)

  -- ---- a routine

  -- from one of its entries the routine is right
  record FromEntry (number : ℕ) (routine : Routine) (entry : ℕ) : Type 0 where
    same : Same (Among (2 ^ entry)) (Runs program format depth number) (Means graph format depth routine.node)
    ends : Ends (Among (2 ^ entry)) (Among (slice_index_or routine.exits entry 0))
        (Means graph format depth routine.node)

  from_entry : (at : RoutinePlace) (number : ℕ) (routine : Routine) (entry : ℕ)
      → slice_get program number ≡ Some routine → All (IsRightStep graph program format depth) routine.code
      → entry_fault graph program at routine entry ≡ None → FromEntry number routine entry
  from_entry at number routine entry there right e =
      let X : Positions = Among (slice_index_or routine.exits entry 0) in
      let start : Judged = record { work = routine.node ∷ []; places = 2 ^ entry; gap = One } in
      let claim : Claim graph program format depth X routine.code start =
      ended_claim (Claim graph program format depth X routine.code start) at routine entry
      (followed graph program at 0 routine.code start) e (followed_claim X at 0 routine.code start right) in
      let done = Does (Runs program format) format depth in
      let opened : Same (Among (2 ^ entry)) (Runs program format depth number) (Chain done routine.code) =
      subst (λ (found : Option Routine). Same (Among (2 ^ entry)) (Runs program format depth number)
      (Chain done (code_of found))) there (runs_opened program format depth number) in
      record {
        same = same_trans opened
            (same_trans (same_sym (gap_one_then graph format)) (same_trans claim.same then_nothing));
        ends = same_ends then_nothing claim.ends;
      }

-- neither is a fault
both_none : (first other : Option CheckFault) → or_else first other ≡ None → (first ≡ None) × (other ≡ None)
both_none None other e = (refl, e)
both_none (Some fault) other e = absurd (none-some fault (sym e))

module _ (graph : List Node) (program : List Routine) where
  -- no entry of the first n has a fault
  entry_passes : (at : RoutinePlace) (routine : Routine) (n : ℕ) → entries_fault graph program at routine n ≡ None
      → (entry : ℕ) → entry < n → has routine.entry entry ≡ true → entry_fault graph program at routine entry ≡ None
  entry_passes at routine zero e entry lt h = absurd (omega (arith, lt))
  entry_passes at routine (suc n) e entry lt h =
      let parts = both_none (entries_fault graph program at routine n)
      (if has routine.entry n then entry_fault graph program at routine n else None) e in
      elim (cases_lt entry n) as (λ v. entry_fault graph program at routine entry ≡ None) [
        | inl before ↦ entry_passes at routine n parts.0 entry before h
        | inr past ↦
            let same : entry ≡ n = omega (arith, lt, past) in
            let there : has routine.entry n ≡ true = subst (λ q. has routine.entry q ≡ true) same h in
            subst (λ q. entry_fault graph program at routine q ≡ None) (sym same)
            (subst (λ b. (if b then entry_fault graph program at routine n else None) ≡ None) there parts.1)
      ]

  -- no entry of a routine without a fault has one
  routine_passes : (at : RoutinePlace) (routine : Routine) → routine_fault graph program at routine ≡ None → (entry : ℕ)
      → entry < 8 → has routine.entry entry ≡ true → entry_fault graph program at routine entry ≡ None
  unfolding routine_fault
  routine_passes at routine e = by_node (ltb routine.node (length graph)) e
    where
      by_node : (there : Bool) → (if there then entries_fault graph program at routine 8 else Some (WrongWork at 0))
          ≡ None → (entry : ℕ) → entry < 8 → has routine.entry entry ≡ true
          → entry_fault graph program at routine entry ≡ None
      by_node true e = entry_passes at routine 8 e
      by_node false e = absurd (none-some (WrongWork at 0) (sym e))

  -- no routine has a fault
  routines_pass : (which from : ℕ) (routines : List Routine) → routines_fault which graph program from routines ≡ None
      → (k : ℕ) (routine : Routine) → slice_get routines k ≡ Some routine
      → routine_fault graph program (place_of which (from + k)) routine ≡ None
  routines_pass which from [] e k routine there =
      absurd (let lt = slice_get_within {A = Routine} [] k routine there in omega (arith, lt))
  routines_pass which from (first ∷ more) e zero routine there =
      let place : from ≡ from + 0 = omega arith in
      let parts = both_none (routine_fault graph program (place_of which from) first)
      (routines_fault which graph program (suc from) more) e in
      subst (λ n. routine_fault graph program (place_of which n) routine ≡ None) place
      (subst (λ r. routine_fault graph program (place_of which from) r ≡ None) (same_Some first routine there)
      parts.0)
  routines_pass which from (first ∷ more) e (suc k) routine there =
      let place : suc from + k ≡ from + suc k = omega arith in
      let parts = both_none (routine_fault graph program (place_of which from) first)
      (routines_fault which graph program (suc from) more) e in
      subst (λ n. routine_fault graph program (place_of which n) routine ≡ None) place
      (routines_pass which (suc from) more parts.1 k routine there)

module _ (which : ℕ) (graph : List Node) (program : List Routine) (graph_rules : IsGraph graph)
    (rules : IsProgram program) (passes : program_fault which graph program ≡ None) where
  -- no entry of a routine has a fault
  program_passes : (number : ℕ) (routine : Routine) → slice_get program number ≡ Some routine → (entry : ℕ) → entry < 8
      → has routine.entry entry ≡ true → entry_fault graph program (place_of which number) routine entry ≡ None
  program_passes number routine there =
      let place : 0 + number ≡ number = omega arith in
      routine_passes graph program (place_of which number) routine
      (subst (λ n. routine_fault graph program (place_of which n) routine ≡ None) place
      (routines_pass graph program which 0 program passes number routine there))

  routine_rules : (number : ℕ) (routine : Routine) → slice_get program number ≡ Some routine → IsRoutine program routine
  routine_rules number routine there =
      subst (IsRoutine program) (get_or_from_slice_get program number routine routine there)
      (rules.routines number routine (slice_get_within program number routine there))

  -- a routine is right where those are that it names
  routine_right : (format : Format) (depth number : ℕ) (routine : Routine) → slice_get program number ≡ Some routine
      → Assumes graph program format depth routine.rank → IsRightAt graph program format depth number routine
  routine_right format depth number routine there assumes =
      let kept = routine_rules number routine there in
      let right : All (IsRightStep graph program format depth) routine.code =
      λ k d lt. right_step graph program format depth routine.rank graph_rules assumes (slice_index_or routine.code k d)
      (kept.instrs k d lt) (kept.lower k d lt) in
      let from : (p : ℕ) → Among routine.entry p → FromEntry graph program format depth number routine (p % 8) =
      λ p s. from_entry graph program format depth (place_of which number) number routine (p % 8) there right
      (program_passes number routine there (p % 8) (omega arith) (has_place routine.entry p ∙ s)) in
      record {
        related = record {
          to = λ p t x s r. (from p s).same.to p t x (among_place (p % 8) p refl) r;
          from = λ p t x s r. (from p s).same.from p t x (among_place (p % 8) p refl) r;
        };
        ended = λ p t x s r. (from p s).ends.at p t x (among_place (p % 8) p refl)
            ((from p s).same.to p t x (among_place (p % 8) p refl) r);
      }

  -- at one depth, rank by rank
  right_below : (format : Format) (depth : ℕ)
      → (1 ≤ depth → (number : ℕ) (routine : Routine) → slice_get program number ≡ Some routine
      → IsRightAt graph program format (depth - 1) number routine)
      → (bound number : ℕ) (routine : Routine) → slice_get program number ≡ Some routine → routine.rank < bound
      → IsRightAt graph program format depth number routine
  right_below format depth deep zero number routine there lt = absurd (omega (arith, lt))
  right_below format depth deep (suc bound) number routine there lt =
      routine_right format depth number routine there (record {
        lower = λ other named at less. right_below format depth deep bound other named at (omega (arith, lt, less));
        deeper = λ other named at some. deep some other named at;
      })

  -- depth by depth
  right_at : (format : Format) (depth number : ℕ) (routine : Routine) → slice_get program number ≡ Some routine
      → IsRightAt graph program format depth number routine
  right_at format zero number routine there =
      right_below format zero (λ some. absurd (omega (arith, some))) (suc routine.rank) number routine there
      (omega arith)
  right_at format (suc depth) number routine there =
      let less : depth ≡ suc depth - 1 = omega arith in
      right_below format (suc depth)
      (λ some other named at. subst (λ d. IsRightAt graph program format d other named) less
      (right_at format depth other named at)) (suc routine.rank) number routine there (omega arith)

  sound_by_rules : AreRight graph program
  sound_by_rules number routine there = record {
    related = λ format depth. (right_at format depth number routine there).related;
    ended = λ format depth. (right_at format depth number routine there).ended;
  }

-- a program without a fault is right
pub sound : (which : ℕ) (graph : List Node) (program : List Routine) → IsGraph graph → IsProgram program
    → program_fault which graph program ≡ None → AreRight graph program
sound which graph program graph_rules rules passes = sound_by_rules which graph program graph_rules rules passes

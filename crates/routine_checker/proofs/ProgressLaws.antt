-- The work of a routine is taken once, whatever the places are.
use Rattle.std.proofs.Common.{◌≡◌, ℕ, zero, suc, ◌+◌, ◌-◌, ◌^◌, ◌<◌, ◌≤◌, Bool, true, false, not, slice_get, slice_index_or, List, [], ◌∷◌, length, drop, drop-cons, get_or, Option, Some, None, Ok, Err, refl, sym, ap, subst, ◌∙◌, arith}
use Rattle.std.proofs.lemmas.Bool.{true≢false}
use Rattle.std.proofs.lemmas.List.{drop_all}
use Rattle.std.proofs.lemmas.Option.{none-some, same_Some, slice_get-get_or}
use Rattle.type_graph.specs.declared.width.Width.TheVariants.{One}
use Rattle.type_graph.specs.declared.width.Width.{Width}
use Rattle.type_graph.specs.declared.node.Node.{Node}
use Rattle.marshal_program.specs.declared.instr.Instr.{Instr}
use Rattle.marshal_program.specs.declared.instr.Instr.TheVariants.{Align}
use Rattle.marshal_program.specs.declared.instr.Routine.{Routine}
use Rattle.routine_checker.specs.declared.fault.RoutinePlace.{RoutinePlace}
use Rattle.routine_checker.specs.declared.fault.CheckFault.{CheckFault}
use Rattle.routine_checker.specs.declared.fault.CheckFault.TheVariants.{WrongWork}
use Rattle.routine_checker.specs.declared.check.Taken.{Taken}
use Rattle.routine_checker.specs.declared.step.Reached.{Reached}
use Rattle.routine_checker.specs.Taking.{and_then, taken, is_done_within, is_piece, pieces}
use Rattle.routine_checker.specs.Sets.{is_within, gaps_agree}
use Rattle.routine_checker.specs.Steps.{Judged, step, followed_by, followed, end_fault, ended, entry_fault}
use Rattle.routine_checker.specs.inner.Progress.{takes, work_behind, state_of, IsTaken}
use Rattle.routine_checker.proofs.TakeLaws.{taken_none}
use Rattle.routine_checker.proofs.StepCode.{step_no_work}

pub off : (b : Bool) → not b ≡ true → b ≡ false
off true e = absurd (true≢false (sym e))
off false e = refl

pub on : (b : Bool) → not b ≡ false → b ≡ true
on true e = refl
on false e = absurd (true≢false e)

module _ (graph : List Node) (program : List Routine) where
  -- a gap takes nothing
  pub align_takes : (instr : Instr) (to : Width) (work rest : List ℕ) → instr ≡ Align to
      → takes graph program (Some instr) work ≡ Some rest → work ≡ rest
  align_takes instr to work rest e t =
      same_Some work rest (sym (taken_none (is_piece graph program (Align to)) graph work)
      ∙ ap (λ i. takes graph program (Some i) work) (sym e) ∙ t)

  -- what takes nothing because nothing is there is no gap
  lacking : (instr : Instr) (work : List ℕ) → takes graph program (Some instr) work ≡ None → (to : Width)
      → instr ≡ Align to → ⊥
  lacking instr work t to e =
      none-some work (sym t ∙ ap (λ i. takes graph program (Some i) work) e
      ∙ taken_none (is_piece graph program (Align to)) graph work)

  -- as the code takes it
  pub took : (nodes : List Node) (instr : Instr) (n : ℕ) (work : List ℕ) (rest : Option (List ℕ)) → nodes ≡ graph
      → n ≡ pieces instr → taken n (is_piece nodes program instr) nodes work ≡ rest
      → takes graph program (Some instr) work ≡ rest
  took nodes instr n work rest same is e =
      subst (λ (nodes : List Node). taken (pieces instr) (is_piece nodes program instr) nodes work ≡ rest) same
      (ap (λ n. taken n (is_piece nodes program instr) nodes work) (sym is) ∙ e)

  module _ (code : List Instr) where
    pub behind_none : (work : List ℕ) → work_behind graph program code 0 work ≡ Some work
    unfolding work_behind
    behind_none work = refl

    pub behind_next : (n : ℕ) (instr : Instr) (work middle rest : List ℕ) → n < length code
        → get_or code n instr ≡ instr → work_behind graph program code n work ≡ Some middle
        → takes graph program (Some instr) middle ≡ Some rest → work_behind graph program code (n + 1) work ≡ Some rest
    unfolding work_behind
    behind_next n instr work middle rest fits is behind t =
        let next : n + 1 ≡ suc n = omega arith in
        ap (λ k. work_behind graph program code k work) next
        ∙ ap (and_then (takes graph program (slice_get code n))) behind
        ∙ ap (λ o. takes graph program o middle) (slice_get-get_or code n instr fits ∙ ap (λ i. Some i) is) ∙ t

    -- the work in front of the last of them
    pub record Split (n : ℕ) (work rest : List ℕ) : Type 0 where
      pub middle : List ℕ
      pub before : work_behind graph program code n work ≡ Some middle
      pub last : takes graph program (slice_get code n) middle ≡ Some rest

    split_by : (n : ℕ) (work rest : List ℕ) (before : Option (List ℕ)) → work_behind graph program code n work ≡ before
        → and_then (takes graph program (slice_get code n)) before ≡ Some rest → Split n work rest
    split_by n work rest None e t = absurd (none-some rest t)
    split_by n work rest (Some middle) e t = record { middle = middle; before = e; last = t }

    split : (n : ℕ) (work rest : List ℕ) → work_behind graph program code (suc n) work ≡ Some rest → Split n work rest
    unfolding work_behind
    split n work rest e = split_by n work rest (work_behind graph program code n work) refl e

    pub behind_split : (n : ℕ) (instr : Instr) (work rest : List ℕ) → n < length code → get_or code n instr ≡ instr
        → work_behind graph program code (n + 1) work ≡ Some rest
        → (middle : List ℕ) × (work_behind graph program code n work ≡ Some middle)
        × (takes graph program (Some instr) middle ≡ Some rest)
    behind_split n instr work rest fits is e =
        let next : n + 1 ≡ suc n = omega arith in
        let parts = split n work rest (ap (λ k. work_behind graph program code k work) (sym next) ∙ e) in (
          parts.middle,
          parts.before,
          ap (λ o. takes graph program o parts.middle)
              (sym (slice_get-get_or code n instr fits ∙ ap (λ i. Some i) is)) ∙ parts.last,
        )

    -- what is behind more instructions is behind fewer
    behind_fewer : (k n : ℕ) (work rest : List ℕ) → work_behind graph program code (k + n) work ≡ Some rest
        → (middle : List ℕ) × (work_behind graph program code n work ≡ Some middle)
    behind_fewer zero n work rest e = let none : 0 + n ≡ n = omega arith in
        (rest, ap (λ k. work_behind graph program code k work) (sym none) ∙ e)
    behind_fewer (suc k) n work rest e =
        let next : suc k + n ≡ suc (k + n) = omega arith in
        let parts = split (k + n) work rest (ap (λ k. work_behind graph program code k work) (sym next) ∙ e) in
        behind_fewer k n work parts.middle parts.before

    pub behind_first : (n m : ℕ) (work rest : List ℕ) → n ≤ m → work_behind graph program code m work ≡ Some rest
        → (middle : List ℕ) × (work_behind graph program code n work ≡ Some middle)
    behind_first n m work rest few e =
        let all : m ≡ (m - n) + n = omega (arith, few) in
        behind_fewer (m - n) n work rest (ap (λ k. work_behind graph program code k work) (sym all) ∙ e)

    module _ (at : RoutinePlace) where
      followed_next : (n : ℕ) (instr : Instr) (state : Judged) → n < length code → get_or code n instr ≡ instr
          → followed graph program at n (drop n code) state
          ≡ followed_by (followed graph program at (suc n) (drop (suc n) code))
          (step graph program at n instr state)
      followed_next n instr state fits is =
          ap (λ more. followed graph program at n more state) (drop-cons code n instr fits)
          ∙ ap (λ i. followed_by (followed graph program at (suc n) (drop (suc n) code))
          (step graph program at n i state)) is

      pub followed_more : (n : ℕ) (instr : Instr) (state next : Judged) → n < length code → get_or code n instr ≡ instr
          → step graph program at n instr state ≡ Ok next
          → followed graph program at n (drop n code) state ≡ followed graph program at (n + 1) (drop (n + 1) code) next
      followed_more n instr state next fits is e =
          let more : suc n ≡ n + 1 = omega arith in
          followed_next n instr state fits is ∙ ap (followed_by (followed graph program at (suc n) (drop (suc n) code)))
          e
          ∙ ap (λ k. followed graph program at k (drop k code) next) more

      pub followed_ends : (n : ℕ) (instr : Instr) (state : Judged) (fault : CheckFault) → n < length code
          → get_or code n instr ≡ instr → step graph program at n instr state ≡ Err fault
          → followed graph program at n (drop n code) state ≡ Err fault
      followed_ends n instr state fault fits is e =
          followed_next n instr state fits is ∙ ap (followed_by (followed graph program at (suc n) (drop (suc n) code)))
          e

      pub followed_all : (n : ℕ) (state : Judged) → length code ≤ n
          → followed graph program at n (drop n code) state ≡ Ok state
      followed_all n state past = ap (λ more. followed graph program at n more state) (drop_all n code past)

  module _ (routine : Routine) where
    -- an instruction whose work isn't there
    pub taken_short : (n : ℕ) (instr : Instr) (rest : List ℕ) → n < length routine.code
        → get_or routine.code n instr ≡ instr → work_behind graph program routine.code n (routine.node ∷ []) ≡ Some rest
        → takes graph program (Some instr) rest ≡ None
        → IsTaken graph program routine (record { instrs = n; is_all = false })
    taken_short n instr rest fits is behind none =
        record {
          rest = rest;
          behind = behind;
          within = omega (arith, fits);
          lacks = λ e at entry reached. ap (ended graph at routine entry)
              (followed_ends routine.code at n instr (state_of rest reached) (WrongWork at n) fits is
              (step_no_work graph program at n instr (state_of rest reached) (lacking instr rest none) none));
          whole = λ e. absurd (true≢false (sym e));
        }

    done_test : (done : Bool) (rest : List ℕ) (at : RoutinePlace) (entry : ℕ) (reached : Reached)
        → is_done_within 64 graph rest ≡ done → done ≡ false
        → ended graph at routine entry (Ok (state_of rest reached)) ≡ Some (WrongWork at (length routine.code))
    done_test done rest at entry reached e f =
        ap (λ b. end_fault b (gaps_agree reached.places reached.gap One)
        (is_within reached.places (slice_index_or routine.exits entry 0)) at (length routine.code) entry) (e ∙ f)

    -- all instructions
    pub taken_all : (n : ℕ) (done : Bool) (rest : List ℕ) → n ≡ length routine.code
        → work_behind graph program routine.code n (routine.node ∷ []) ≡ Some rest
        → done ≡ is_done_within 64 graph rest → IsTaken graph program routine (record { instrs = n; is_all = done })
    taken_all n done rest all behind is =
        record {
          rest = rest;
          behind = behind;
          within = omega (arith, all);
          lacks = λ e at entry reached. ap (ended graph at routine entry)
              (followed_all routine.code at n (state_of rest reached) (omega (arith, all)))
              ∙ done_test done rest at entry reached (sym is) e ∙ ap (λ k. Some (WrongWork at k)) (sym all);
          whole = λ e. (all, sym is ∙ e);
        }

    -- the end of a routine whose work is there
    pub ended_whole : (taken : Taken) (at : RoutinePlace) (entry : ℕ) (reached : Reached)
        (right : IsTaken graph program routine taken) → taken.is_all ≡ true
        → ended graph at routine entry
        (followed graph program at taken.instrs (drop taken.instrs routine.code) (state_of right.rest reached))
        ≡ end_fault true (gaps_agree reached.places reached.gap One)
        (is_within reached.places (slice_index_or routine.exits entry 0)) at taken.instrs entry
    ended_whole taken at entry reached right e =
        let all = right.whole e in
        ap (ended graph at routine entry)
        (followed_all routine.code at taken.instrs (state_of right.rest reached) (omega (arith, all.0)))
        ∙ ap (λ b. end_fault b (gaps_agree reached.places reached.gap One)
        (is_within reached.places (slice_index_or routine.exits entry 0)) at (length routine.code) entry) all.1
        ∙ ap (λ k. end_fault true (gaps_agree reached.places reached.gap One)
        (is_within reached.places (slice_index_or routine.exits entry 0)) at k entry) (sym all.0)

    -- from an entry
    pub entry_taken : (taken : Taken) (at : RoutinePlace) (entry places : ℕ) (end : Reached)
        (right : IsTaken graph program routine taken) → places ≡ 2 ^ entry
        → followed graph program at 0 routine.code
        (state_of (routine.node ∷ []) (record { places = places; gap = One }))
        ≡ followed graph program at taken.instrs (drop taken.instrs routine.code) (state_of right.rest end)
        → entry_fault graph program at routine entry
        ≡ ended graph at routine entry
        (followed graph program at taken.instrs (drop taken.instrs routine.code) (state_of right.rest end))
    entry_taken taken at entry places end right e f =
        ap (λ places. ended graph at routine entry
        (followed graph program at 0 routine.code
        (record { work = routine.node ∷ []; places = places; gap = One }))) (sym e)
        ∙ ap (ended graph at routine entry) f

    pub entry_fails : (at : RoutinePlace) (entry places : ℕ) (fault : CheckFault) → places ≡ 2 ^ entry
        → followed graph program at 0 routine.code
        (state_of (routine.node ∷ []) (record { places = places; gap = One })) ≡ Err fault
        → entry_fault graph program at routine entry ≡ Some fault
    entry_fails at entry places fault e f =
        ap (λ places. ended graph at routine entry
        (followed graph program at 0 routine.code
        (record { work = routine.node ∷ []; places = places; gap = One }))) (sym e)
        ∙ ap (ended graph at routine entry) f

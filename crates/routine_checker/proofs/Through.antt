-- Codes that the checker follows to their end without a fault, instruction by instruction.
use Rattle.std.proofs.Common.{◌≡◌, ℕ, zero, suc, ◌^◌, ◌<◌, Bool, true, false, List, [], ◌∷◌, ◌++◌, length, replicate, Option, Some, None, Result, Ok, slice_get, slice_index_or, if◌then◌else◌, refl, sym, ap, ◌∙◌, arith}
use Rattle.std.proofs.lemmas.List.{append-nil}
use Rattle.std.proofs.lemmas.Bool.{lt-ltb, true≢false}
use Rattle.type_graph.specs.declared.width.Width.{Width}
use Rattle.type_graph.specs.declared.width.Width.TheVariants.{One}
use Rattle.type_graph.specs.declared.node.Node.{Node}
use Rattle.type_graph.specs.Words.{wider}
use Rattle.type_graph.specs.Value.{node_at}
use Rattle.marshal_program.specs.declared.instr.Instr.{Instr}
use Rattle.marshal_program.specs.declared.instr.Instr.TheVariants.{Align}
use Rattle.marshal_program.specs.declared.instr.Routine.{Routine}
use Rattle.marshal_program.specs.ProgramRules.{is_work}
use Rattle.routine_checker.specs.declared.fault.RoutinePlace.{RoutinePlace}
use Rattle.routine_checker.specs.declared.fault.CheckFault.{CheckFault}
use Rattle.routine_checker.specs.declared.fault.CheckFault.TheVariants.{WrongWork}
use Rattle.routine_checker.specs.Sets.{has, gaps_agree, is_within}
use Rattle.routine_checker.specs.Taking.{parts_of, opened, taken_within, and_then, taken, is_done_within, is_piece, pieces}
use Rattle.routine_checker.specs.Steps.{Judged, enters, pads, ends, tested, worked, step, followed_by, followed, end_fault, ended, entry_fault, or_else, entries_fault, routine_fault, routines_fault, place_of}
use Rattle.routine_checker.proofs.FullSets.{full_place, gaps_same_width, within_all}

-- ---- taking

module _ (graph : List Node) (wanted : ℕ → Bool) where
  -- a wanted node is taken at once
  pub takes_first : (levels number : ℕ) (more : List ℕ) → wanted number ≡ true
      → taken_within (suc levels) wanted graph (number ∷ more) ≡ Some more
  unfolding taken_within
  takes_first levels number more e =
      ap (λ b. if b then Some more
      else opened None (taken_within levels wanted graph) (parts_of (node_at graph number)) more) e

  -- another that has parts is opened
  pub opens_first : (levels number part : ℕ) (parts : List ℕ) → wanted number ≡ false
      → parts_of (node_at graph number) ≡ Some (part ∷ parts) → wanted part ≡ true
      → taken_within (suc (suc levels)) wanted graph (number ∷ []) ≡ Some parts
  unfolding taken_within
  opens_first levels number part parts e has e' =
      ap (λ b. if b then Some []
      else opened None (taken_within (suc levels) wanted graph) (parts_of (node_at graph number)) []) e
      ∙ ap (λ found. opened None (taken_within (suc levels) wanted graph) found []) has
      ∙ takes_first levels part (parts ++ []) e'
      ∙ ap (λ (l : List ℕ). Some l) (append-nil parts)

  -- one wanted node
  pub takes_one : (number : ℕ) (more : List ℕ) → wanted number ≡ true → taken 1 wanted graph (number ∷ more) ≡ Some more
  unfolding taken
  takes_one number more e = ap (and_then (taken 0 wanted graph)) (takes_first 63 number more e)

  -- copies of a wanted node
  pub takes_copies : (n number : ℕ) → wanted number ≡ true → taken n wanted graph (replicate n number) ≡ Some []
  unfolding taken
  takes_copies zero number e = refl
  takes_copies (suc n) number e = ap (and_then (taken n wanted graph)) (takes_first 63 number (replicate n number) e)
      ∙ takes_copies n number e

  -- what is taken from the parts is taken from the node that has them
  pub takes_opened : (n number part : ℕ) (parts : List ℕ) → wanted number ≡ false
      → parts_of (node_at graph number) ≡ Some (part ∷ parts) → wanted part ≡ true
      → taken (suc n) wanted graph (number ∷ []) ≡ taken (suc n) wanted graph (part ∷ parts)
  unfolding taken
  takes_opened n number part parts e has e' =
      ap (and_then (taken n wanted graph)) (opens_first 62 number part parts e has e'
      ∙ sym (takes_first 63 part parts e'))

-- ---- a code

-- the instructions are followed to an end that is well
pub record Through (graph : List Node) (program : List Routine) (code : List Instr) (state : Judged) : Type 0 where
  pub last : Judged
  pub followed_is : (at : RoutinePlace) (n : ℕ) → followed graph program at n code state ≡ Ok last
  pub done : is_done_within 64 graph last.work ≡ true
  pub unpadded : gaps_agree last.places last.gap One ≡ true

module _ (graph : List Node) (program : List Routine) where
  -- nothing is left
  pub nothing_through : (places : ℕ) → Through graph program [] (record { work = []; places = places; gap = One })
  unfolding is_done_within
  nothing_through places =
      record {
        last = record { work = []; places = places; gap = One };
        followed_is = λ at n. refl;
        done =
            refl;
        unpadded = gaps_same_width places One;
      }

  -- a step, and then the rest
  pub step_through : (instr : Instr) (code : List Instr) (state next : Judged)
      → ((at : RoutinePlace) (n : ℕ) → step graph program at n instr state ≡ Ok next) → Through graph program code next
      → Through graph program (instr ∷ code) state
  step_through instr code state next e rest = record {
    last = rest.last;
    followed_is = λ at n. ap (followed_by (followed graph program at (suc n) code)) (e at n)
        ∙ rest.followed_is at (suc n);
    done = rest.done;
    unpadded = rest.unpadded;
  }

  -- a gap
  pub align_through : (to : Width) (code : List Instr) (state : Judged)
      → Through graph program code (record { work = state.work; places = state.places; gap = wider state.gap to })
      → Through graph program (Align to ∷ code) state
  unfolding step
  align_through to code state rest =
      step_through (Align to) code state (record { work = state.work; places = state.places; gap = wider state.gap to })
      (λ at n. refl) rest

  -- the work of an instruction that isn't a gap is taken
  pub step_worked : (at : RoutinePlace) (n : ℕ) (instr : Instr) (state : Judged) → is_work instr ≡ true
      → step graph program at n instr state
      ≡ worked graph program at n instr state (taken (pieces instr) (is_piece graph program instr) graph state.work)
  unfolding step
  step_worked at n (Align to) state e = absurd (true≢false (sym e))
  step_worked at n instr state e = refl

  -- an instruction whose three judgements pass
  pub work_through : (instr : Instr) (code : List Instr) (state : Judged) (rest : List ℕ) → is_work instr ≡ true
      → taken (pieces instr) (is_piece graph program instr) graph state.work ≡ Some rest
      → enters program instr state.places state.gap ≡ true → pads graph program instr state.places state.gap ≡ true
      → Through graph program code
      (record { work = rest; places = ends program instr state.places state.gap; gap = One })
      → Through graph program (instr ∷ code) state
  work_through instr code state rest work takes enter pad more =
      let next : Judged = record { work = rest; places = ends program instr state.places state.gap; gap = One } in
      step_through instr code state next
      (λ at n. step_worked at n instr state work ∙ ap (worked graph program at n instr state) takes
      ∙ ap (λ b. tested at n b (pads graph program instr state.places state.gap) next) enter
      ∙ ap (λ b. tested at n true b next) pad)
      more

  -- where an instruction takes the same from other work
  pub other_work : (instr : Instr) (code : List Instr) (work other : List ℕ) (places : ℕ) (gap : Width)
      → is_work instr ≡ true
      → taken (pieces instr) (is_piece graph program instr) graph work
      ≡ taken (pieces instr) (is_piece graph program instr) graph other
      → Through graph program (instr ∷ code) (record { work = other; places = places; gap = gap })
      → Through graph program (instr ∷ code) (record { work = work; places = places; gap = gap })
  other_work instr code work other places gap is same through =
      let state : Judged = record { work = work; places = places; gap = gap } in
      let beside : Judged = record { work = other; places = places; gap = gap } in
      let step_same : (at : RoutinePlace) (n : ℕ) → step graph program at n instr state
      ≡ step graph program at n instr beside =
      λ at n. step_worked at n instr state is ∙ ap (worked graph program at n instr state) same
      ∙ sym (step_worked at n instr beside is) in
      record {
        last = through.last;
        followed_is = λ at n. ap (followed_by (followed graph program at (suc n) code)) (step_same at n)
            ∙ through.followed_is at n;
        done = through.done;
        unpadded = through.unpadded;
      }

  -- ---- a routine that ends everywhere

  entry_none : (at : RoutinePlace) (routine : Routine) (entry : ℕ) → slice_index_or routine.exits entry 0 ≡ 255
      → Through graph program routine.code (record { work = routine.node ∷ []; places = 2 ^ entry; gap = One })
      → entry_fault graph program at routine entry ≡ None
  entry_none at routine entry exits through =
      let last = through.last in
      let here : Result Judged CheckFault → Option CheckFault = ended graph at routine entry in
      ap here (through.followed_is at 0)
      ∙ ap (λ b. end_fault b (gaps_agree last.places last.gap One)
      (is_within last.places (slice_index_or routine.exits entry 0)) at (length routine.code) entry) through.done
      ∙ ap (λ b. end_fault true b (is_within last.places (slice_index_or routine.exits entry 0)) at
      (length routine.code) entry) through.unpadded
      ∙ ap (λ b. end_fault true true b at (length routine.code) entry)
      (ap (is_within last.places) exits ∙ within_all last.places)

  entries_none : (at : RoutinePlace) (routine : Routine) (n : ℕ)
      → ((entry : ℕ) → entry < n → entry_fault graph program at routine entry ≡ None)
      → entries_fault graph program at routine n ≡ None
  entries_none at routine zero h = refl
  entries_none at routine (suc n) h =
      ap (λ before. or_else before (if has routine.entry n then entry_fault graph program at routine n else None))
      (entries_none at routine n (λ entry lt. h entry (omega (arith, lt))))
      ∙ by (has routine.entry n) (h n (omega arith))
    where
      by : (there : Bool) → entry_fault graph program at routine n ≡ None
          → (if there then entry_fault graph program at routine n else None) ≡ None
      by true e = e
      by false e = refl

  -- a routine without a fault, if its code goes through from wherever it starts
  pub routine_none : (at : RoutinePlace) (routine : Routine) → routine.node < length graph
      → routine.exits ≡ replicate 8 255
      → ((places : ℕ) → Through graph program routine.code
      (record { work = routine.node ∷ []; places = places; gap = One }))
      → routine_fault graph program at routine ≡ None
  unfolding routine_fault
  routine_none at routine lt exits through =
      ap (λ b. if b then entries_fault graph program at routine 8 else Some (WrongWork at 0))
      (lt-ltb routine.node (length graph) lt)
      ∙ entries_none at routine 8
      (λ entry lt. entry_none at routine entry (ap (λ (sets : List ℕ). slice_index_or sets entry 0) exits
      ∙ full_place entry lt) (through (2 ^ entry)))

  pub routines_none : (which from : ℕ) (routines : List Routine)
      → ((k : ℕ) (routine : Routine) → slice_get routines k ≡ Some routine → (at : RoutinePlace)
      → routine_fault graph program at routine ≡ None) → routines_fault which graph program from routines ≡ None
  routines_none which from [] h = refl
  routines_none which from (first ∷ more) h =
      ap (λ before. or_else before (routines_fault which graph program (suc from) more))
      (h 0 first refl (place_of which from))
      ∙ routines_none which (suc from) more (λ k routine there. h (suc k) routine there)

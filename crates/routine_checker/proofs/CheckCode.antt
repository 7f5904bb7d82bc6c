-- The faults of a routine and of a program, as the code meets them.
use Rattle.std.proofs.Common.{◌≡◌, ◌≢◌, ℕ, zero, suc, ◌+◌, ◌-◌, ◌<◌, ◌≤◌, true, false, List, length, drop, drop-cons, get_or, Option, Some, None, if◌then◌else◌, refl, sym, ap, ◌∙◌, arith}
use Rattle.std.proofs.lemmas.Bool.{lt-ltb, le-ltb}
use Rattle.std.proofs.lemmas.List.{drop_all}
use Rattle.std.proofs.lemmas.Option.{none-some}
use Rattle.type_graph.specs.declared.node.Node.{Node}
use Rattle.marshal_program.specs.declared.instr.Routine.{Routine}
use Rattle.routine_checker.specs.declared.fault.RoutinePlace.{RoutinePlace}
use Rattle.routine_checker.specs.declared.fault.CheckFault.{CheckFault}
use Rattle.routine_checker.specs.declared.fault.CheckFault.TheVariants.{WrongWork}
use Rattle.routine_checker.specs.Sets.{has}
use Rattle.routine_checker.specs.Steps.{entry_fault, or_else, entries_fault, routine_fault, routines_fault, program_fault, place_of}

module _ (graph : List Node) (program : List Routine) (at : RoutinePlace) (routine : Routine) where
  -- the node isn't there
  pub routine_outside : length graph ≤ routine.node → routine_fault graph program at routine ≡ Some (WrongWork at 0)
  unfolding routine_fault
  routine_outside le = ap (λ b. if b then entries_fault graph program at routine 8 else Some (WrongWork at 0))
      (le-ltb routine.node (length graph) le)

  -- it is
  pub routine_inside : routine.node < length graph → routine_fault graph program at routine
      ≡ entries_fault graph program at routine 8
  unfolding routine_fault
  routine_inside lt = ap (λ b. if b then entries_fault graph program at routine 8 else Some (WrongWork at 0))
      (lt-ltb routine.node (length graph) lt)

  entries_next : (n : ℕ) → entries_fault graph program at routine (n + 1)
      ≡ or_else (entries_fault graph program at routine n)
      (if has routine.entry n then entry_fault graph program at routine n else None)
  entries_next n = let e : n + 1 ≡ suc n = omega arith in rw e refl

  -- one more that is no entry, or has no fault
  pub entries_none : (n : ℕ) → entries_fault graph program at routine n ≡ None → has routine.entry n ≡ false
      → entries_fault graph program at routine (n + 1) ≡ None
  entries_none n e h = entries_next n
      ∙ ap (λ (first : Option CheckFault). or_else first
      (if has routine.entry n then entry_fault graph program at routine n else None)) e
      ∙ ap (λ b. if b then entry_fault graph program at routine n else None) h

  pub entries_more : (n : ℕ) → entries_fault graph program at routine n ≡ None → has routine.entry n ≡ true
      → entries_fault graph program at routine (n + 1) ≡ entry_fault graph program at routine n
  entries_more n e h = entries_next n
      ∙ ap (λ (first : Option CheckFault). or_else first
      (if has routine.entry n then entry_fault graph program at routine n else None)) e
      ∙ ap (λ b. if b then entry_fault graph program at routine n else None) h

  -- the first fault stays the first
  entries_kept : (k n : ℕ) (fault : CheckFault) → entries_fault graph program at routine n ≡ Some fault
      → entries_fault graph program at routine (n + k) ≡ Some fault
  entries_kept zero n fault e = let none : n + 0 ≡ n = omega arith in ap (entries_fault graph program at routine) none
      ∙ e
  entries_kept (suc k) n fault e =
      let next : n + suc k ≡ n + k + 1 = omega arith in
      ap (entries_fault graph program at routine) next ∙ entries_next (n + k)
      ∙ ap (λ (first : Option CheckFault). or_else first (if has routine.entry (n + k) then
      entry_fault graph program at routine (n + k) else None)) (entries_kept k n fault e)

  pub first_entry : (n : ℕ) (fault : CheckFault) → n < 8 → entries_fault graph program at routine n ≡ None
      → has routine.entry n ≡ true → entry_fault graph program at routine n ≡ Some fault
      → entries_fault graph program at routine 8 ≡ Some fault
  first_entry n fault lt e h f =
      let all : 8 ≡ n + 1 + (8 - (n + 1)) = omega (arith, lt) in
      ap (entries_fault graph program at routine) all
      ∙ entries_kept (8 - (n + 1)) (n + 1) fault (entries_more n e h ∙ f)

module _ (which : ℕ) (graph : List Node) (program : List Routine) where
  routines_from : (number : ℕ) (d : Routine) → number < length program
      → routines_fault which graph program number (drop number program)
      ≡ or_else (routine_fault graph program (place_of which number) (get_or program number d))
      (routines_fault which graph program (suc number) (drop (suc number) program))
  routines_from number d lt = ap (routines_fault which graph program number) (drop-cons program number d lt)

  -- one more routine without a fault
  pub routines_more : (number : ℕ) (d : Routine) → number < length program
      → routine_fault graph program (place_of which number) (get_or program number d) ≡ None
      → routines_fault which graph program number (drop number program)
      ≡ routines_fault which graph program (number + 1) (drop (number + 1) program)
  routines_more number d lt e =
      let next : suc number ≡ number + 1 = omega arith in
      routines_from number d lt
      ∙ ap (λ (first : Option CheckFault). or_else first
      (routines_fault which graph program (suc number) (drop (suc number) program))) e
      ∙ ap (λ n. routines_fault which graph program n (drop n program)) next

  -- one with a fault
  pub routines_first : (number : ℕ) (d : Routine) (fault : CheckFault) → number < length program
      → routine_fault graph program (place_of which number) (get_or program number d) ≡ Some fault
      → routines_fault which graph program number (drop number program) ≡ Some fault
  routines_first number d fault lt e = routines_from number d lt
      ∙ ap (λ (first : Option CheckFault). or_else first
      (routines_fault which graph program (suc number) (drop (suc number) program))) e

  -- behind the last
  pub routines_all : (number : ℕ) → length program ≤ number
      → routines_fault which graph program number (drop number program) ≡ None
  routines_all number le = ap (routines_fault which graph program number) (drop_all number program le)

-- a program without a fault isn't refused
pub not_refused : (which : ℕ) (graph : List Node) (program accepted : List Routine) (fault : CheckFault)
    → program_fault which graph accepted ≡ None → program_fault which graph program ≡ Some fault → program ≢ accepted
not_refused which graph program accepted fault none some e =
    none-some fault (sym none ∙ ap (program_fault which graph) (sym e) ∙ some)

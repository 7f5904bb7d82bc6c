-- The pieces of Times and Call: nodes whose routine is right.
use Rattle.std.proofs.Common.{◌≡◌, ℕ, zero, suc, ◌<◌, Bool, true, false, ◌&&◌, List, [], ◌∷◌, length, replicate, Option, Some, slice_get, refl, sym, ap, subst, ◌∙◌, arith}
use Rattle.std.specs.Prelude.{All}
use Rattle.std.specs.List.{AllByRecursion}
use Rattle.std.proofs.lemmas.Bool.{eqb-true}
use Rattle.std.proofs.lemmas.List.Elements.{All-head}
use Rattle.type_graph.specs.declared.width.Width.{Width}
use Rattle.type_graph.specs.declared.node.Node.{Node}
use Rattle.type_graph.specs.Words.{Format}
use Rattle.type_graph.specs.Relation.{Relation, Then, Many, Chain}
use Rattle.type_graph.specs.Comparison.{Positions, Same, Ends}
use Rattle.type_graph.specs.Atoms.{Gap}
use Rattle.type_graph.specs.Encoding.{Means}
use Rattle.type_graph.specs.GraphRules.{IsGraph}
use Rattle.type_graph.specs.Walks.{lead_of}
use Rattle.type_graph.proofs.RelationLaws.{same_refl, same_sym, same_trans, then_same, then_same_anywhere, then_ends, same_ends, many_one, chain_many}
use Rattle.type_graph.proofs.LeadLaws.{Leads, then_leads}
use Rattle.marshal_program.specs.declared.instr.Instr.TheVariants.{Times, Call}
use Rattle.marshal_program.specs.declared.instr.Routine.{Routine}
use Rattle.marshal_program.specs.Does.{Runs}
use Rattle.marshal_program.specs.ProgramRules.{IsLower, called_by}
use Rattle.routine_checker.specs.Sets.{Among, moved, gaps_serve}
use Rattle.routine_checker.specs.Taking.{is_node_of, is_routine_of, is_piece}
use Rattle.routine_checker.specs.Steps.{Judged, entry_of, exits_of, node_in, enters, enters_times, times_left, pads}
use Rattle.routine_checker.proofs.Claim.{IsRightAt, Assumes, DoesPieces}
use Rattle.routine_checker.proofs.GapLaws.{gap_moved, gap_serves}
use Rattle.routine_checker.proofs.RoutineUse.{Found, found_routine, lower_right, repeated_same, repeated_ends, node_leads_with}

-- nodes that are all the routine's are copies of one
copies : (program : List Routine) (number : ℕ) (routine : Routine) (numbers : List ℕ)
    → slice_get program number ≡ Some routine → AllByRecursion (λ m. is_routine_of program number m ≡ true) numbers
    → numbers ≡ replicate (length numbers) routine.node
copies program number routine [] there all = refl
copies program number routine (m ∷ more) there all =
    let head : routine.node ≡ m =
    eqb-true routine.node m (subst (λ (found : Option Routine). is_node_of found m ≡ true) there all.0) in
    let tail = copies program number routine more there all.1 in
    ap (λ (n : ℕ). n ∷ more) (sym head) ∙ ap (λ (l : List ℕ). routine.node ∷ l) tail

-- what is said of a chain of copies is said of the node so many times
chain_of_copies : {S : Positions} (R : ℕ → Relation) (n node : ℕ) (numbers : List ℕ) → length numbers ≡ n
    → numbers ≡ replicate (length numbers) node → Same S (Chain R numbers) (Many n (R node))
chain_of_copies {S} R n node numbers long same =
    subst (λ k. Same S (Chain R numbers) (Many k (R node))) long
    (subst (λ (l : List ℕ). Same S (Chain R l) (Many (length numbers) (R node))) (sym same)
    (chain_many R (length numbers) node))

module _ (graph : List Node) (program : List Routine) (format : Format) (depth number : ℕ) (routine : Routine)
    (right : IsRightAt graph program format depth number routine)
    (leads : Leads format (lead_of graph routine.node) (Means graph format depth routine.node)) where
  -- the routine, once or more, behind a gap that serves
  repeated_behind : (set : ℕ) (gap : Width) (n : ℕ) → enters_times (suc n) routine.entry routine.exits (moved set gap 0)
      ≡ true → gaps_serve set gap (lead_of graph routine.node) ≡ true
      → Same (Among set) (Then (Gap format gap) (Many (suc n) (Runs program format depth number)))
      (Many (suc n) (Means graph format depth routine.node))
  repeated_behind set gap n e pad =
      same_trans (then_same same_refl (gap_moved set gap)
      (repeated_same graph program format depth number routine right (suc n) (moved set gap 0) e))
      (gap_serves set gap (lead_of graph routine.node) pad
      (then_leads {Q = Many n (Means graph format depth routine.node)} leads))

  repeated_behind_ends : (set : ℕ) (gap : Width) (n : ℕ)
      → enters_times (suc n) routine.entry routine.exits (moved set gap 0) ≡ true
      → gaps_serve set gap (lead_of graph routine.node) ≡ true
      → Ends (Among set) (Among (times_left (suc n) routine.exits (moved set gap 0)))
      (Many (suc n) (Means graph format depth routine.node))
  repeated_behind_ends set gap n e pad =
      same_ends (gap_serves set gap (lead_of graph routine.node) pad
      (then_leads {Q = Many n (Means graph format depth routine.node)} leads))
      (then_ends (gap_moved set gap)
      (repeated_ends graph program format depth number routine right (suc n) (moved set gap 0) e))

module _ (graph : List Node) (program : List Routine) (format : Format) (depth rank : ℕ) (rules : IsGraph graph)
    (assumes : Assumes graph program format depth rank) where
  -- so many times, at least once
  times_found : (n number : ℕ) (state : Judged) (numbers : List ℕ) (m : ℕ) → Found program number m
      → IsLower program rank number
      → AllByRecursion (λ m. is_routine_of program number m ≡ true) numbers → length numbers ≡ suc n
      → enters program (Times (suc n) number) state.places state.gap ≡ true
      → pads graph program (Times (suc n) number) state.places state.gap ≡ true
      → DoesPieces graph program format depth (Times (suc n) number) state numbers
  times_found n number state numbers m found lower all long e pad =
      let routine = found.routine in
      let right = lower_right graph program format depth rank number routine assumes found.there lower in
      let leads = node_leads_with graph format depth routine.node rules in
      let set = state.places in
      let gap = state.gap in
      let entered : enters_times (suc n) routine.entry routine.exits (moved set gap 0) ≡ true =
      subst (λ (f : Option Routine). enters_times (suc n) (entry_of f) (exits_of f) (moved set gap 0) ≡ true)
      found.there e in
      let padded : gaps_serve set gap (lead_of graph routine.node) ≡ true =
      subst (λ (f : Option Routine). gaps_serve set gap (lead_of graph (node_in f)) ≡ true) found.there pad in
      let same = copies program number routine numbers found.there all in
      let as_many = chain_of_copies {S = Among set} (Means graph format depth) (suc n) routine.node numbers long same in
      record {
        same = same_trans (repeated_behind graph program format depth number routine right leads set gap n entered
            padded) (same_sym as_many);
        ended = same_ends (same_sym as_many)
            (subst (λ (f : Option Routine). Ends (Among set) (Among (times_left (suc n) (exits_of f) (moved set gap 0)))
            (Many (suc n) (Means graph format depth routine.node))) (sym found.there)
            (repeated_behind_ends graph program format depth number routine right leads set gap n entered padded));
      }

  pub times_pieces : (n number : ℕ) (state : Judged) (numbers : List ℕ) → 0 < n
      → All (IsLower program rank) (called_by (Times n number))
      → AllByRecursion (λ m. is_piece graph program (Times n number) m ≡ true) numbers → length numbers ≡ n
      → enters program (Times n number) state.places state.gap ≡ true
      → pads graph program (Times n number) state.places state.gap ≡ true
      → DoesPieces graph program format depth (Times n number) state numbers
  times_pieces zero number state numbers some lower all long e pad = absurd (omega arith)
  times_pieces (suc n) number state [] some lower all long e pad = absurd (omega arith)
  times_pieces (suc n) number state (m ∷ more) some lower all long e pad =
      times_found n number state (m ∷ more) m (found_routine program number m all.0)
      (All-head (IsLower program rank) number [] lower) all long e pad

  and_nothing : (b : Bool) → b ≡ true → (b && true) ≡ true
  and_nothing true h = refl
  and_nothing false h = h

  -- a call is one time
  pub call_pieces : (number : ℕ) (state : Judged) (numbers : List ℕ)
      → All (IsLower program rank) (called_by (Call number))
      → AllByRecursion (λ m. is_piece graph program (Call number) m ≡ true) numbers → length numbers ≡ 1
      → enters program (Call number) state.places state.gap ≡ true
      → pads graph program (Call number) state.places state.gap ≡ true
      → DoesPieces graph program format depth (Call number) state numbers
  unfolding enters_times times_left
  call_pieces number state numbers lower all long e pad =
      let once = times_pieces 1 number state numbers (omega arith) lower all long (and_nothing _ e) pad in
      record { same = same_trans (then_same_anywhere same_refl (same_sym many_one)) once.same; ended = once.ended }

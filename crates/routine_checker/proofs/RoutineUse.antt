-- Right routines, at positions of a set that is within their entries.
use Rattle.std.proofs.Common.{◌≡◌, ℕ, zero, suc, ◌+◌, ◌<◌, true, List, length, Option, Some, None, slice_get, bit_or, refl, sym, subst, inl, inr}
use Rattle.std.specs.Prelude.{IsSomeAnd}
use Rattle.std.proofs.lemmas.Bool.{eqb-true, true≢false, cases_lt}
use Rattle.std.proofs.lemmas.List.{get_or_past}
use Rattle.std.proofs.lemmas.List.Elements.{All-get_or}
use Rattle.type_graph.specs.declared.node.Node.{Node}
use Rattle.type_graph.specs.declared.node.Node.TheVariants as nodes
use Rattle.type_graph.specs.Words.{Format}
use Rattle.type_graph.specs.Relation.{Relation, Many}
use Rattle.type_graph.specs.Comparison.{Same, Ends}
use Rattle.type_graph.specs.Value.{node_at}
use Rattle.type_graph.specs.Encoding.{Means}
use Rattle.type_graph.specs.GraphRules.{IsNode, IsGraph}
use Rattle.type_graph.specs.Walks.{lead_of}
use Rattle.type_graph.proofs.RelationLaws.{same_refl, then_same, then_ends, same_ends, nothing_ends}
use Rattle.type_graph.proofs.HeldEach.{shallow_all}
use Rattle.type_graph.proofs.LeadLaws.{Leads, IsFilled, lead_leads}
use Rattle.marshal_program.specs.declared.instr.Routine.{Routine}
use Rattle.marshal_program.specs.Does.{Runs}
use Rattle.marshal_program.specs.ProgramRules.{IsLower}
use Rattle.routine_checker.specs.Sets.{Among, is_within, left, closure}
use Rattle.routine_checker.specs.Taking.{is_node_of, is_routine_of}
use Rattle.routine_checker.specs.Steps.{enters_times, times_left}
use Rattle.routine_checker.proofs.Claim.{IsRightAt, Assumes}
use Rattle.routine_checker.proofs.SetLaws.{both, within_among, among_left, among_or_left}

-- ---- the routine that an instruction names

pub record Found (program : List Routine) (number node : ℕ) : Type 0 where
  pub routine : Routine
  pub there : slice_get program number ≡ Some routine
  pub node_is : routine.node ≡ node

found_in : (program : List Routine) (number node : ℕ) (found : Option Routine) → slice_get program number ≡ found
    → is_node_of found node ≡ true → Found program number node
found_in program number node None there e = absurd (true≢false (sym e))
found_in program number node (Some routine) there e =
    record { routine = routine; there = there; node_is = eqb-true routine.node node e }

pub found_routine : (program : List Routine) (number node : ℕ) → is_routine_of program number node ≡ true
    → Found program number node
found_routine program number node e = found_in program number node (slice_get program number) refl e

-- one of a lower rank is right
pub lower_right : (graph : List Node) (program : List Routine) (format : Format) (depth rank number : ℕ)
    (routine : Routine) → Assumes graph program format depth rank → slice_get program number ≡ Some routine
    → IsLower program rank number → IsRightAt graph program format depth number routine
lower_right graph program format depth rank number routine assumes there lower =
    assumes.lower number routine there
    (subst (λ (found : Option Routine). IsSomeAnd found (λ r. r.rank < rank)) there lower)

-- ---- done once

module _ (graph : List Node) (program : List Routine) (format : Format) (depth number : ℕ) (routine : Routine)
    (right : IsRightAt graph program format depth number routine) where
  pub use_same : (set : ℕ) → is_within set routine.entry ≡ true
      → Same (Among set) (Runs program format depth number) (Means graph format depth routine.node)
  use_same set e = record {
    to = λ p t x s r. right.related.to p t x (within_among set routine.entry e p s) r;
    from = λ p t x s r. right.related.from p t x (within_among set routine.entry e p s) r;
  }

  pub use_ends : (set : ℕ) → is_within set routine.entry ≡ true
      → Ends (Among set) (Among (left set routine.exits)) (Runs program format depth number)
  use_ends set e = record {
    at = λ p t x s r. among_left set routine.exits p (p + length x) s
        (right.ended p t x (within_among set routine.entry e p s) r);
  }

  pub means_ends : (set : ℕ) → is_within set routine.entry ≡ true
      → Ends (Among set) (Among (left set routine.exits)) (Means graph format depth routine.node)
  means_ends set e = same_ends (use_same set e) (use_ends set e)

  -- ---- done n times

  pub repeated_same : (n set : ℕ) → enters_times n routine.entry routine.exits set ≡ true
      → Same (Among set) (Many n (Runs program format depth number)) (Many n (Means graph format depth routine.node))
  unfolding enters_times
  repeated_same zero set e = same_refl
  repeated_same (suc n) set e =
      let parts = both (is_within set routine.entry)
      (enters_times n routine.entry routine.exits (left set routine.exits)) e in
      then_same (use_same set parts.0) (use_ends set parts.0) (repeated_same n (left set routine.exits) parts.1)

  pub repeated_ends : (n set : ℕ) → enters_times n routine.entry routine.exits set ≡ true
      → Ends (Among set) (Among (times_left n routine.exits set)) (Many n (Means graph format depth routine.node))
  unfolding enters_times times_left
  repeated_ends zero set e = nothing_ends
  repeated_ends (suc n) set e =
      let parts = both (is_within set routine.entry)
      (enters_times n routine.entry routine.exits (left set routine.exits)) e in
      then_ends (means_ends set parts.0) (repeated_ends n (left set routine.exits) parts.1)

-- ---- done for the elements of a sequence

-- where the first starts is among the starts
pub among_closure : (n : ℕ) (exits : List ℕ) (set p : ℕ) → Among set p → Among (closure n exits set) p
unfolding closure
among_closure zero exits set p s = s
among_closure (suc n) exits set p s =
    among_closure n exits (bit_or set (left set exits)) p (among_or_left set (left set exits) p s)

-- where one ends the next may start
pub starts_end : {R : Relation} (set : ℕ) (exits : List ℕ) → is_within (left set exits) set ≡ true
    → Ends (Among set) (Among (left set exits)) R → Ends (Among set) (Among set) R
starts_end set exits e ends =
    record { at = λ p t x s r. within_among (left set exits) set e (p + length x) (ends.at p t x s r) }

-- ---- the first alignment of what a routine means

node_filled : (graph : List Node) (node : Node) → IsNode graph node → IsFilled node
node_filled graph (nodes.Array elem n) h = h.1
node_filled graph node h = tt

pub filled_at : (graph : List Node) → IsGraph graph → (number : ℕ) → IsFilled (node_at graph number)
filled_at graph rules number = elim (cases_lt number (length graph)) as (λ v. IsFilled (node_at graph number)) [
  | inl lt ↦ node_filled graph (node_at graph number)
      (All-get_or (IsNode graph) graph number nodes.Octet lt rules.nodes)
  | inr le ↦ subst IsFilled (sym (get_or_past graph number nodes.Octet le)) tt
]

pub node_leads_with : (graph : List Node) (format : Format) (depth number : ℕ) → IsGraph graph
    → Leads format (lead_of graph number) (Means graph format depth number)
node_leads_with graph format depth number rules =
    lead_leads graph format depth (filled_at graph rules) 64 number (shallow_all graph rules number)

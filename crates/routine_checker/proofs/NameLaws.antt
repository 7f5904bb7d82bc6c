-- Where each routine stands at the place of its node and may start everywhere, it serves that node.
use Rattle.std.proofs.Common.{◌≡◌, ℕ, ◌<◌, Bool, true, cond, ◌==◌, ◌&&◌, nat_lt, List, length, Some, None, slice_index_or, refl, ap, ◌∙◌, arith}
use Rattle.std.specs.Prelude.{is_some}
use Rattle.std.specs.List.{position_or_len}
use Rattle.std.proofs.lemmas.Bool.{eq-eqb, ne_eqb, lt-ltb, and_from, and_left}
use Rattle.std.proofs.lemmas.Option.{get_or_from_slice_get}
use Rattle.std.proofs.lemmas.List.Sums.{position_or_len_is}
use Rattle.marshal_program.specs.declared.instr.Routine.{Routine}
use Rattle.marshal_program.specs.Served.{is_serving, served_by}
use Rattle.routine_checker.specs.Steps.{has_routine, name_fault_by, name_fault}
use Rattle.routine_checker.proofs.OwnRoutines.{Own}

module _ (program : List Routine) (own : (number : ℕ) → number < length program → Own program number) where
  -- whether a routine serves a node is seen from the place of the routine
  serving_at : (d : Routine) (number place : ℕ) → place < length program
      → (is_serving number (slice_index_or program place d) ≡ ((place == number) && true))
  serving_at d number place lt =
      let mine = own place lt in
      ap (is_serving number) (get_or_from_slice_get program place mine.routine d mine.there)
      ∙ ap (λ (node : ℕ). (node == number) && (mine.routine.entry == 255)) mine.node_is
      ∙ ap (λ (entry : ℕ). (place == number) && (entry == 255)) mine.entry_is

  pub own_serves : (number : ℕ) → number < length program → served_by program number ≡ Some number
  own_serves number lt =
      let d : Routine = (own number lt).routine in
      let here : position_or_len (is_serving number) program ≡ number =
      position_or_len_is (is_serving number) program number d (omega (arith, lt))
      (λ k before. serving_at d number k (omega (arith, lt, before))
      ∙ and_left (k == number) true (ne_eqb k number (λ same. omega (arith, before, same))))
      (λ inside. serving_at d number number lt ∙ and_from (number == number) true (eq-eqb number number refl) refl) in
      ap (λ (n : ℕ). cond (nat_lt n (length program)) (Some n) None) here
      ∙ ap (λ (b : Bool). cond b (Some number) None) (lt-ltb number (length program) lt)

  -- so no name of a node is refused
  pub own_named : (number : ℕ) → number < length program → name_fault program number ≡ None
  own_named number lt = ap (λ found. name_fault_by (is_some found) (has_routine program number) number)
      (own_serves number lt)

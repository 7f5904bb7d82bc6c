-- What is claimed behind a step that passed is claimed in front of it.
use Rattle.std.proofs.Common.{◌≡◌, ℕ, Bool, true, false, List, ◌∷◌, length, Option, Some, None, Ok, IfOk, refl}
use Rattle.std.specs.List.{AllByRecursion}
use Rattle.std.proofs.lemmas.Result.{IfOk-at_ok}
use Rattle.type_graph.specs.declared.width.Width.{Width}
use Rattle.type_graph.specs.declared.width.Width.TheVariants.{One}
use Rattle.type_graph.specs.declared.node.Node.{Node}
use Rattle.type_graph.specs.Words.{Format, wider}
use Rattle.type_graph.specs.Relation.{Relation, Then, Chain}
use Rattle.type_graph.specs.Comparison.{Positions, Same, Ends}
use Rattle.type_graph.specs.Atoms.{Gap}
use Rattle.type_graph.specs.Encoding.{Means}
use Rattle.type_graph.proofs.RelationLaws.{same_refl, same_sym, same_trans, same_at, same_ends, then_same, then_same_anywhere, then_ends, then_assoc, chain_add}
use Rattle.type_graph.proofs.AtomLaws.{gap_gap}
use Rattle.type_graph.proofs.Openings.{gap_one_then}
use Rattle.marshal_program.specs.declared.instr.Instr.{Instr}
use Rattle.marshal_program.specs.declared.instr.Instr.TheVariants.{Align}
use Rattle.marshal_program.specs.declared.instr.Routine.{Routine}
use Rattle.marshal_program.specs.Does.{Does, Runs}
use Rattle.marshal_program.specs.ProgramRules.{is_work}
use Rattle.routine_checker.specs.declared.fault.RoutinePlace.{RoutinePlace}
use Rattle.routine_checker.specs.Sets.{Among}
use Rattle.routine_checker.specs.Taking.{taken, is_piece, pieces}
use Rattle.routine_checker.specs.Steps.{Judged, enters, pads, ends, tested, worked, step}
use Rattle.routine_checker.proofs.Claim.{Claim, DoesPieces}
use Rattle.routine_checker.proofs.TakenLaws.{Took, took}

module _ (graph : List Node) (program : List Routine) (format : Format) (depth : ℕ) where
  -- an instruction that takes work does its pieces wherever a step passes
  abbrev pub IsRightStep : Instr → Type 0
  IsRightStep instr = is_work instr ≡ true → (state : Judged) (numbers : List ℕ)
      → AllByRecursion (λ number. is_piece graph program instr number ≡ true) numbers → length numbers ≡ pieces instr
      → enters program instr state.places state.gap ≡ true → pads graph program instr state.places state.gap ≡ true
      → DoesPieces graph program format depth instr state numbers

module _ (graph : List Node) (program : List Routine) (format : Format) (depth : ℕ) (X : Positions) where
  -- what an instruction does
  abbrev Done : Instr → Relation
  Done = Does (Runs program format) format depth

  -- two gaps in a row are the wider one
  align_claim : (to : Width) (code : List Instr) (state : Judged)
      → Claim graph program format depth X code
      (record { work = state.work; places = state.places; gap = wider state.gap to })
      → Claim graph program format depth X (Align to ∷ code) state
  align_claim to code state claim = record {
    same = same_trans (same_at (same_trans (same_sym then_assoc) (then_same_anywhere (gap_gap state.gap to) same_refl)))
        claim.same;
    ends = claim.ends;
  }

  -- the pieces that are taken, and then the rest
  pieces_claim : (instr : Instr) (code : List Instr) (state : Judged) (rest : List ℕ)
      (took : Took graph (pieces instr) (is_piece graph program instr) state.work rest)
      → DoesPieces graph program format depth instr state took.numbers
      → Claim graph program format depth X code
      (record { work = rest; places = ends program instr state.places state.gap; gap = One })
      → Claim graph program format depth X (instr ∷ code) state
  pieces_claim instr code state rest took does claim =
      let means = Means graph format depth in
      let after : Positions = Among (ends program instr state.places state.gap) in
      let cut : Same (Among state.places) (Then (Chain means took.numbers) (Chain means rest))
      (Chain means state.work) =
      same_at (same_sym (same_trans (took.same.same format depth) (chain_add means took.numbers rest))) in
      let further : Same after (Chain Done code) (Chain means rest) =
      same_trans (same_sym (gap_one_then graph format)) claim.same in
      let made : Ends (Among state.places) after (Then (Gap format state.gap) (Done instr)) =
      same_ends (same_sym does.same) does.ended in
      record {
        same = same_trans (same_sym then_assoc) (same_trans (then_same does.same made further) cut);
        ends = same_ends cut (then_ends does.ended claim.ends);
      }

  -- the judgement of one instruction
  judged_claim : (at : RoutinePlace) (n : ℕ) (instr : Instr) (code : List Instr) (state : Judged) → is_work instr ≡ true
      → IsRightStep graph program format depth instr → (rest : List ℕ)
      → Took graph (pieces instr) (is_piece graph program instr) state.work rest
      → (entered padded : Bool) → enters program instr state.places state.gap ≡ entered
      → pads graph program instr state.places state.gap ≡ padded
      → IfOk (tested at n entered padded
      (record { work = rest; places = ends program instr state.places state.gap; gap = One }))
      (λ next. Claim graph program format depth X code next
      → Claim graph program format depth X (instr ∷ code) state)
  judged_claim at n instr code state work right rest took false padded e f = tt
  judged_claim at n instr code state work right rest took true false e f = tt
  judged_claim at n instr code state work right rest took true true e f =
      λ claim. pieces_claim instr code state rest took (right work state took.numbers took.pass took.long e f) claim

  worked_claim : (at : RoutinePlace) (n : ℕ) (instr : Instr) (code : List Instr) (state : Judged) → is_work instr ≡ true
      → IsRightStep graph program format depth instr → (left : Option (List ℕ))
      → taken (pieces instr) (is_piece graph program instr) graph state.work ≡ left
      → IfOk (worked graph program at n instr state left) (λ next. Claim graph program format depth X code next
      → Claim graph program format depth X (instr ∷ code) state)
  worked_claim at n instr code state work right None e = tt
  worked_claim at n instr code state work right (Some rest) e =
      judged_claim at n instr code state work right rest
      (took graph (is_piece graph program instr) (pieces instr) state.work rest e)
      (enters program instr state.places state.gap) (pads graph program instr state.places state.gap) refl refl

  -- a step
  step_passes : (at : RoutinePlace) (n : ℕ) (instr : Instr) (code : List Instr) (state : Judged)
      → IsRightStep graph program format depth instr
      → IfOk (step graph program at n instr state) (λ next. Claim graph program format depth X code next
      → Claim graph program format depth X (instr ∷ code) state)
  unfolding step
  step_passes at n (Align to) code state right = align_claim to code state
  step_passes at n instr code state right =
      worked_claim at n instr code state refl right
      (taken (pieces instr) (is_piece graph program instr) graph state.work) refl

  -- what is claimed behind a step that passed is claimed in front of it
  pub step_claim : (at : RoutinePlace) (n : ℕ) (instr : Instr) (code : List Instr) (state next : Judged)
      → IsRightStep graph program format depth instr → step graph program at n instr state ≡ Ok next
      → Claim graph program format depth X code next → Claim graph program format depth X (instr ∷ code) state
  step_claim at n instr code state next right e =
      IfOk-at_ok (λ next. Claim graph program format depth X code next
      → Claim graph program format depth X (instr ∷ code) state) e (step_passes at n instr code state right)

-- What a step answers, test by test.
use Rattle.std.proofs.Common.{◌≡◌, ℕ, Bool, true, false, List, Some, None, Ok, Err, refl, ap, ◌∙◌}
use Rattle.type_graph.specs.declared.width.Width.{Width}
use Rattle.type_graph.specs.declared.width.Width.TheVariants.{One}
use Rattle.type_graph.specs.declared.node.Node.{Node}
use Rattle.type_graph.specs.Words.{wider}
use Rattle.marshal_program.specs.declared.instr.Instr.{Instr}
use Rattle.marshal_program.specs.declared.instr.Instr.TheVariants.{Align}
use Rattle.marshal_program.specs.declared.instr.Routine.{Routine}
use Rattle.routine_checker.specs.declared.fault.RoutinePlace.{RoutinePlace}
use Rattle.routine_checker.specs.declared.fault.CheckFault.TheVariants.{WrongWork, WrongPadding, EntryOutside}
use Rattle.routine_checker.specs.Taking.{taken, is_piece, pieces}
use Rattle.routine_checker.specs.Steps.{Judged, enters, pads, ends, tested, worked, step}

module _ (graph : List Node) (program : List Routine) (at : RoutinePlace) (n : ℕ) (instr : Instr) (state : Judged) where
  pub step_align : (to : Width) → instr ≡ Align to
      → step graph program at n instr state
      ≡ Ok (record { work = state.work; places = state.places; gap = wider state.gap to })
  unfolding step
  step_align to e = ap (λ i. step graph program at n i state) e

  step_other : ((to : Width) → instr ≡ Align to → ⊥)
      → step graph program at n instr state
      ≡ worked graph program at n instr state (taken (pieces instr) (is_piece graph program instr) graph state.work)
  unfolding step
  step_other h = other instr h
    where
      other : (i : Instr) → ((to : Width) → i ≡ Align to → ⊥)
          → step graph program at n i state ≡ worked graph program at n i state
          (taken (pieces i) (is_piece graph program i) graph state.work)
      other (Align to) h = absurd (h to refl)
      other i h = refl

  -- the work isn't there
  pub step_no_work : ((to : Width) → instr ≡ Align to → ⊥)
      → taken (pieces instr) (is_piece graph program instr) graph state.work ≡ None
      → step graph program at n instr state ≡ Err (WrongWork at n)
  step_no_work h e = step_other h ∙ ap (worked graph program at n instr state) e

  step_judged : ((to : Width) → instr ≡ Align to → ⊥) → (rest : List ℕ) (entered padded : Bool)
      → taken (pieces instr) (is_piece graph program instr) graph state.work ≡ Some rest
      → enters program instr state.places state.gap ≡ entered → pads graph program instr state.places state.gap ≡ padded
      → step graph program at n instr state
      ≡ tested at n entered padded
      (record { work = rest; places = ends program instr state.places state.gap; gap = One })
  step_judged h rest entered padded e f g =
      let next : Judged = record { work = rest; places = ends program instr state.places state.gap; gap = One } in
      step_other h ∙ ap (worked graph program at n instr state) e
      ∙ ap (λ b. tested at n b (pads graph program instr state.places state.gap) next) f
      ∙ ap (λ b. tested at n entered b next) g

  -- an entry is outside
  pub step_outside : ((to : Width) → instr ≡ Align to → ⊥) → (rest : List ℕ)
      → taken (pieces instr) (is_piece graph program instr) graph state.work ≡ Some rest
      → enters program instr state.places state.gap ≡ false
      → step graph program at n instr state ≡ Err (EntryOutside at n)
  step_outside h rest e f = step_judged h rest false (pads graph program instr state.places state.gap) e f refl

  -- a gap is wrong
  pub step_wrong_gap : ((to : Width) → instr ≡ Align to → ⊥) → (rest : List ℕ)
      → taken (pieces instr) (is_piece graph program instr) graph state.work ≡ Some rest
      → enters program instr state.places state.gap ≡ true → pads graph program instr state.places state.gap ≡ false
      → step graph program at n instr state ≡ Err (WrongPadding at n)
  step_wrong_gap h rest e f g = step_judged h rest true false e f g

  -- all is well
  pub step_passes : ((to : Width) → instr ≡ Align to → ⊥) → (rest : List ℕ)
      → taken (pieces instr) (is_piece graph program instr) graph state.work ≡ Some rest
      → enters program instr state.places state.gap ≡ true → pads graph program instr state.places state.gap ≡ true
      → step graph program at n instr state
      ≡ Ok (record { work = rest; places = ends program instr state.places state.gap; gap = One })
  step_passes h rest e f g = step_judged h rest true true e f g

-- The verdict on a table, from those on its parts.
use Rattle.std.proofs.Common.{◌≡◌, ℕ, zero, suc, ◌<◌, ◌+◌, ◌-◌, List, [], length, Option, Some, None, slice_get, Result, OnOk, IfErr, ap, ◌∙◌, arith}
use Rattle.std.specs.Bool.{OnFalse}
use Rattle.std.proofs.lemmas.Result.{MatchResult-weaker, on_ok_weaker}
use Rattle.std.specs.Option.{option_or}
use Rattle.type_graph.specs.declared.node.Node.{Node}
use Rattle.marshal_program.specs.declared.instr.Routine.{Routine}
use Rattle.routine_checker.specs.declared.fault.CheckFault.{CheckFault}
use Rattle.routine_checker.specs.declared.fault.CheckFault.TheVariants as faults
use Rattle.routine_checker.specs.Refusal.{wants_memory}
use Rattle.routine_checker.specs.Steps.{program_fault, name_fault}
use Rattle.table_file.specs.declared.table.Which.{Which}
use Rattle.table_file.specs.declared.table.Which.TheVariants.{First, Second}
use Rattle.table_file.specs.Table.{TableParts, program_at}
use Rattle.position_checker.specs.Verdict.{routines_fault, named_fault, names_fault, table_fault}
use Rattle.type_graph.proofs.Refusals.{only_if_weaker}

-- a program without routines has no fault
pub empty_has_none : (which : ℕ) (graph : List Node) (program : List Routine) → program ≡ []
    → program_fault which graph program ≡ None
empty_has_none which graph program empty = ap (program_fault which graph) empty

module _ (table : TableParts) where
  -- one more name, where those before have no fault
  pub names_next : (place : ℕ) (name : List ℕ) (node : ℕ) (program : Which)
      → slice_get table.model.names place ≡ Some (name, node)
      → slice_get table.uses place ≡ Some program → names_fault table place ≡ None
      → names_fault table (place + 1) ≡ name_fault (program_at table program) node
  names_next place name node program named used before =
      let next : place + 1 ≡ suc place = omega arith in
      ap (names_fault table) next
      ∙ ap (λ (first : Option CheckFault). option_or first
      (named_fault table (slice_get table.model.names place) (slice_get table.uses place))) before
      ∙ ap (λ (n : Option (List ℕ × ℕ)). named_fault table n (slice_get table.uses place)) named
      ∙ ap (λ (u : Option Which). named_fault table (Some (name, node)) u) used

  -- the first fault of names stays the first
  names_kept : (k n : ℕ) (fault : CheckFault) → names_fault table n ≡ Some fault
      → names_fault table (n + k) ≡ Some fault
  names_kept zero n fault e = let none : n + 0 ≡ n = omega arith in ap (names_fault table) none ∙ e
  names_kept (suc k) n fault e =
      let next : n + suc k ≡ suc (n + k) = omega arith in
      ap (names_fault table) next
      ∙ ap (λ (first : Option CheckFault). option_or first
      (named_fault table (slice_get table.model.names (n + k)) (slice_get table.uses (n + k))))
      (names_kept k n fault e)

  -- so the fault of a name is that of all
  pub names_first : (place : ℕ) (name : List ℕ) (node : ℕ) (program : Which) (fault : CheckFault)
      → place < length table.uses
      → slice_get table.model.names place ≡ Some (name, node) → slice_get table.uses place ≡ Some program
      → names_fault table place ≡ None
      → name_fault (program_at table program) node ≡ Some fault
      → names_fault table (length table.uses) ≡ Some fault
  names_first place name node program fault within named used before e =
      let all : length table.uses ≡ place + 1 + (length table.uses - (place + 1)) = omega (arith, within) in
      ap (names_fault table) all ∙ names_kept (length table.uses - (place + 1)) (place + 1) fault
      (names_next place name node program named used before ∙ e)

  pub first_is_first : (fault : CheckFault) → routines_fault table First ≡ Some fault → table_fault table ≡ Some fault
  unfolding table_fault
  first_is_first fault e =
      ap (λ (f : Option CheckFault). option_or (option_or f (routines_fault table Second))
      (names_fault table (length table.uses))) e

  pub second_is_next : (fault : CheckFault) → routines_fault table First ≡ None
      → routines_fault table Second ≡ Some fault → table_fault table ≡ Some fault
  unfolding table_fault
  second_is_next fault first e =
      ap (λ (f : Option CheckFault). option_or (option_or f (routines_fault table Second))
      (names_fault table (length table.uses))) first
      ∙ ap (λ (f : Option CheckFault). option_or f (names_fault table (length table.uses))) e

  pub names_are_last : (fault : Option CheckFault) → routines_fault table First ≡ None
      → routines_fault table Second ≡ None
      → names_fault table (length table.uses) ≡ fault → table_fault table ≡ fault
  unfolding table_fault
  names_are_last fault first second e =
      ap (λ (f : Option CheckFault). option_or (option_or f (routines_fault table Second))
      (names_fault table (length table.uses))) first
      ∙ ap (λ (f : Option CheckFault). option_or f (names_fault table (length table.uses))) second ∙ e

  -- with no fault in either program, the names decide
  pub names_pass : {A : Type 0} (r : Result A CheckFault) → routines_fault table First ≡ None
      → routines_fault table Second ≡ None
      → OnOk r (names_fault table (length table.uses) ≡ None) → OnOk r (table_fault table ≡ None)
  names_pass r first second h = on_ok_weaker r (names_are_last None first second) h

  pub names_told : {A : Type 0} (r : Result A CheckFault) → routines_fault table First ≡ None
      → routines_fault table Second ≡ None
      → IfErr r (λ fault. OnFalse (wants_memory fault) (names_fault table (length table.uses) ≡ Some fault))
      → IfErr r (λ fault. OnFalse (wants_memory fault) (table_fault table ≡ Some fault))
  names_told r first second h =
      MatchResult-weaker r h (λ x t. t)
      (λ fault. only_if_weaker (wants_memory fault) (names_fault table (length table.uses) ≡ Some fault)
      (table_fault table ≡ Some fault) (names_are_last (Some fault) first second))

use Rattle.std.proofs.Common.{ℕ, length, refl, arith}
use Rattle.marshal_program.specs.declared.instr.Routine.{Routine}
use Rattle.table_file.specs.inner.PartCodes.{RoutineFields, routine_fields, spelled_routine_fields}
use Rattle.table_file.specs.inner.Skimming.{IsAtMost, instrs_in, no_weight, weight_both}
use Rattle.table_file.proofs.SkimLaws.{via_skims}
use Rattle.table_file.proofs.routines.RoutinePart.skim.Goals as goal

routine_of : RoutineFields → Routine
routine_of x = record { node = x.0; entry = x.1.0; exits = x.1.1.0; rank = x.1.1.1.0; code = x.1.1.1.1 }

fields_weight : RoutineFields → ℕ
fields_weight = weight_both no_weight (weight_both no_weight (weight_both no_weight (weight_both no_weight length)))

pub returns : goal.returns
unfolding routine_of fields_weight
returns c =
    via_skims spelled_routine_fields routine_fields routine_of (λ b. refl) (IsAtMost fields_weight) (IsAtMost instrs_in)
    (λ n b fits. omega (arith, fits)) c.skim.result _ _ c.skim.ensures

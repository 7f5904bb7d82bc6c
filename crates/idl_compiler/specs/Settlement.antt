-- Which table is handed out for a model.
use Rattle.std.specs.Prelude.{◌≡◌, false, cond, is_none, List, [], length, replicate, Result, Ok, Err}
use Rattle.marshal_program.specs.declared.fault.GenFault.{GenFault}
use Rattle.marshal_program.specs.declared.fault.GenFault.TheVariants.{NoMemory, Limit}
use Rattle.marshal_program.specs.declared.instr.Routine.{Routine}
use Rattle.marshal_program.specs.Plain.{plain_program}
use Rattle.type_model.specs.ModelRules.{Parts}
use Rattle.table_file.specs.declared.table.Which.TheVariants.{First, Second}
use Rattle.table_file.specs.Table.{TableParts, table_of}
use Rattle.position_checker.specs.Verdict.{table_fault}
use Rattle.idl_compiler.specs.declared.choice.Settled.{Settled}

-- with the plain program alone
abbrev pub plain_table : Parts → TableParts
plain_table model = table_of model (plain_program model.graph) [] (replicate (length model.names) First)

-- with a planned program, which serves all names
abbrev pub planned_table : Parts → List Routine → TableParts
planned_table model planned =
    table_of model (plain_program model.graph) planned (replicate (length model.names) Second)

-- A planned program is used exactly where the checker finds no fault in its table. Want of memory of the planner is
-- handed on.
abbrev pub IsSettled : Parts → Result (List Routine) GenFault → Settled → Type 0
IsSettled model (Ok planned) settled =
    (settled.is_planned ≡ is_none (table_fault (planned_table model planned)))
    × (settled.table ≡ cond settled.is_planned (planned_table model planned) (plain_table model))
IsSettled model (Err NoMemory) settled = ⊥
IsSettled model (Err Limit) settled = (settled.is_planned ≡ false) × (settled.table ≡ plain_table model)

use Rattle.std.proofs.Common.{◌⊎◌, ℕ, List, sym, subst}
use Rattle.std.specs.Bool.{OnFalse}
use Rattle.table_file.specs.Table.{TableParts}
use Rattle.table_file.specs.TableSpelling.{Spells, SpellsOld}
use Rattle.position_checker.specs.Acceptance.{IsLone}
use Rattle.routine_checker.specs.Refusal.{wants_memory}
use Rattle.command_tables.specs.Files.{RefusesFile}
use Rattle.routine_checker.specs.declared.fault.CheckFault.{CheckFault}
use Rattle.routine_checker.specs.declared.fault.CheckFault.TheVariants as checks
use Rattle.command_tables.specs.Refusal.{IsOfTable, refusal_of_check}
use Rattle.command_tables.proofs.source.accepted.Goals as goal

of_check : (fault : CheckFault) → IsOfTable (refusal_of_check fault)
of_check checks.NoMemory = tt
of_check (checks.WrongWork at instr) = tt
of_check (checks.WrongPadding at instr) = tt
of_check (checks.EntryOutside at instr) = tt
of_check (checks.ExitsTooSmall at entry) = tt
of_check (checks.NoRoutine node) = tt
of_check (checks.NamedEntryNotFull node) = tt

-- a table that the checker refuses for another cause than memory isn't one that it never refuses
not_right : (octets : List ℕ) (table : TableParts) → Spells table octets ⊎ SpellsOld table octets → (fault : CheckFault)
    → OnFalse (wants_memory fault) (IsLone table → ⊥) → RefusesFile octets (refusal_of_check fault)
not_right octets table spelled checks.NoMemory another = tt
not_right octets table spelled (checks.WrongWork at instr) another =
    record { table = table; spelled = spelled; another = another }
not_right octets table spelled (checks.WrongPadding at instr) another =
    record { table = table; spelled = spelled; another = another }
not_right octets table spelled (checks.EntryOutside at instr) another =
    record { table = table; spelled = spelled; another = another }
not_right octets table spelled (checks.ExitsTooSmall at entry) another =
    record { table = table; spelled = spelled; another = another }
not_right octets table spelled (checks.NoRoutine node) another =
    record { table = table; spelled = spelled; another = another }
not_right octets table spelled (checks.NamedEntryNotFull node) another =
    record { table = table; spelled = spelled; another = another }

pub returns-in-Err-check-clause-cause : goal.returns-in-Err-check-clause-cause
returns-in-Err-check-clause-cause c =
    subst IsOfTable (sym c.from-in-Err-check.ensures) (of_check c.in-Err-check.refused.fault)

pub returns-in-Err-check-clause-refused : goal.returns-in-Err-check-clause-refused
returns-in-Err-check-clause-refused c =
    subst (RefusesFile c.args.octets.now) (sym c.from-in-Err-check.ensures)
    (not_right c.args.octets.now c.in-Ok.table c.in-Ok.ensures.spelled c.in-Err-check.refused.fault
    c.in-Err-check.ensures.lone)

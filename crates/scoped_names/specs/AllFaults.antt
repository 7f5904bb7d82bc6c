-- All faults of a specification's names, in the order of reading: a step that is refused is passed over.
use Rattle.std.specs.Prelude.{ℕ, suc, List, [], ◌∷◌, ◌++◌, Option, Some, None, Result, Ok, Err, if◌then◌else◌}
use Rattle.idl_tree.specs.declared.definitions.Definition.{Definition}
use Rattle.name_steps.specs.Steps.{Step, steps_of}
use Rattle.name_table.specs.Entry.{Entry}
use Rattle.scoped_names.specs.declared.fault.NameFault.{NameFault}
use Rattle.scoped_names.specs.Faults.{is_left_open, never_defined, nothing_yet, step_read}
use Rattle.scoped_names.specs.Reading.{State, StateOrFault}
use Rattle.scoped_names.specs.Tests.{at_entry}

-- what is known behind a step, as before it where it is refused
abbrev pub behind : State → StateOrFault → State
behind st (Ok next) = next
behind st (Err fault) = st

abbrev pub fault_in : {T : Type 0} → Result T NameFault → List NameFault
fault_in (Ok x) = []
fault_in (Err fault) = fault ∷ []

-- what is known behind steps of which those that are refused are passed over
abbrev pub passed_over : State → List Step → State
passed_over st [] = st
passed_over st (s ∷ ss) = passed_over (behind st (step_read st s)) ss

-- the faults of these steps
abbrev pub faults_along : State → List Step → List NameFault
faults_along st [] = []
faults_along st (s ∷ ss) = fault_in (step_read st s) ++ faults_along (behind st (step_read st s)) ss

-- of a structure or union that was declared ahead and isn't defined
abbrev pub fault_left : State → ℕ → Entry → List NameFault
fault_left st place e = (if is_left_open st place e then fault_in (never_defined (at_entry (Some e))) else [])

-- of each among the entries that begin at a place
abbrev pub faults_left : State → ℕ → List Entry → List NameFault
faults_left st place [] = []
faults_left st place (e ∷ es) = fault_left st place e ++ faults_left st (suc place) es

abbrev pub faults_behind : State → List NameFault
faults_behind st = faults_left st 0 st.entries

abbrev pub all_faults : List Definition → List NameFault
all_faults definitions =
    faults_along nothing_yet (steps_of definitions) ++ faults_behind (passed_over nothing_yet (steps_of definitions))

-- ---- what the first of them is

abbrev pub first_of : List NameFault → Option NameFault
first_of [] = None
first_of (fault ∷ faults) = Some fault

abbrev pub fault_of : {T : Type 0} → Result T NameFault → Option NameFault
fault_of (Ok x) = None
fault_of (Err fault) = Some fault

-- The faults that are collected: the first, and how many there are.
use Rattle.std.specs.Prelude.{◌≡◌, List, ◌++◌, length, min, take}
use Rattle.name_steps.specs.Steps.{Step}
use Rattle.scoped_names.specs.declared.fault.NameFault.{NameFault}
use Rattle.scoped_names.specs.declared.all_faults.NameFaults.{NameFaults}
use Rattle.scoped_names.specs.AllFaults.{faults_along, passed_over}
use Rattle.scoped_names.specs.Reading.{State}

-- of all faults so far
pub record Heard (faults : NameFaults) (all : List NameFault) : Type 0 where
  pub first : faults.first.items ≡ take faults.most all
  pub count : faults.count ≡ min (length all) 18446744073709551615

-- more of them are heard
abbrev pub Hears : NameFaults → List NameFault → NameFaults → Type 0
Hears before more now = (all : List NameFault) → Heard before all → Heard now (all ++ more)

-- these steps were read, and their faults heard
pub record Passes (st : State) (before : NameFaults) (steps : List Step) (next : State) (now : NameFaults)
    : Type 0 where
  pub known : next ≡ passed_over st steps
  pub heard : Hears before (faults_along st steps) now

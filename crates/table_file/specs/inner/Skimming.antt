-- What is told of parts that are read past and not kept.
use Rattle.std.specs.Prelude.{◌≡◌, ◌≤◌, ◌+◌, ℕ, List, length, Option, Some, Result, Ok, Err, sum_by}
use Rattle.std.specs.Fmt.{◌++?◌}
use Rattle.type_graph.specs.declared.node.Node.{Node}
use Rattle.type_graph.specs.GraphRules.{members_in, IsGraph}
use Rattle.type_model.specs.declared.signatures.Interface.{Interface}
use Rattle.type_model.specs.declared.signatures.Operation.{Operation}
use Rattle.type_model.specs.declared.signatures.Exception.{Exception}
use Rattle.marshal_program.specs.declared.fault.TableFault.{TableFault}
use Rattle.marshal_program.specs.declared.instr.Routine.{Routine}
use Rattle.table_file.specs.declared.lists.Size.{Size}
use Rattle.table_file.specs.Octets.{spelled_list, spelled_pair}
use Rattle.table_file.specs.Spelling.{spelled_node, spelled_name, spelled_interface, spelled_operation, spelled_exception}
use Rattle.table_file.specs.inner.Reading.{Reads}
use Rattle.table_file.specs.inner.PartCodes.{ModelFields}
use Rattle.table_file.specs.inner.TableCodes.{MostFields, OldFields, TableFields}

-- it fits what was read, or both are one fault
abbrev pub IsTold : {A R : Type 0} → (R → A → Type 0) → Result R TableFault → Result A TableFault → Type 0
IsTold Fits (Ok told) (Ok x) = Fits told x
IsTold Fits (Ok told) (Err fault) = ⊥
IsTold Fits (Err fault) (Ok x) = ⊥
IsTold Fits (Err fault) (Err other) = fault ≡ other

-- Past a part: something was read there, and what is told of it fits it.
pub record Skims {A R : Type 0} (spelled : A → Option (List ℕ)) (Fits : R → A → Type 0) (told : Result R TableFault)
    (old new : Option (List ℕ)) : Type 0 where
  pub read : Result A TableFault
  pub reads : Reads spelled read old new
  pub fits : IsTold Fits told read

-- no more than it weighs
abbrev pub IsAtMost : {A : Type 0} → (A → ℕ) → ℕ → A → Type 0
IsAtMost weight n x = n ≤ weight x

abbrev pub no_weight : {A : Type 0} → A → ℕ
no_weight x = 0

-- of two, one behind the other
abbrev pub weight_both : {A B : Type 0} → (A → ℕ) → (B → ℕ) → A × B → ℕ
weight_both first second x = first x.0 + second x.1

abbrev pub AreBoth : {A B R S : Type 0} → (R → A → Type 0) → (S → B → Type 0) → R × S → A × B → Type 0
AreBoth First Second told x = First told.0 x.0 × Second told.1 x.1

-- just so many, and no more than they weigh
abbrev pub IsRunSize : {A : Type 0} → ℕ → (A → ℕ) → ℕ → List A → Type 0
IsRunSize count weight n items = (length items ≡ count) × (n ≤ sum_by weight items)

-- how many there are, and no more than they weigh
abbrev pub IsSize : {A : Type 0} → (A → ℕ) → Size → List A → Type 0
IsSize weight size items = (length items ≡ size.count) × (size.weight ≤ sum_by weight items)

-- the nodes at the front aren't those of a graph, or none are there
abbrev pub BeginsWithNoGraph : List ℕ → Type 0
BeginsWithNoGraph octets = (nodes : List Node) (rest : List ℕ)
    → spelled_list spelled_node nodes ++? Some rest ≡ Some octets → IsGraph nodes → ⊥

-- ---- of the parts of a file

abbrev pub instrs_in : Routine → ℕ
instrs_in routine = length routine.code

-- what stands behind the nodes of a model
abbrev pub NamedFields : Type 0
NamedFields = List (List ℕ × ℕ) × (List Interface × (List Operation × List Exception))

abbrev pub spelled_declared : List Interface × (List Operation × List Exception) → Option (List ℕ)
spelled_declared = spelled_pair (spelled_list spelled_interface)
    (spelled_pair (spelled_list spelled_operation) (spelled_list spelled_exception))

abbrev pub spelled_named : NamedFields → Option (List ℕ)
spelled_named = spelled_pair (spelled_list spelled_name) spelled_declared

abbrev pub declared_weight : List Interface × (List Operation × List Exception) → ℕ
declared_weight = weight_both length (weight_both length length)

-- how many names
abbrev pub AreNamed : Size × ℕ → NamedFields → Type 0
AreNamed = AreBoth (IsSize (no_weight {A = List ℕ × ℕ})) (IsAtMost declared_weight)

-- how many nodes and members, and how many names
abbrev pub IsModelSize : Size × (Size × ℕ) → ModelFields → Type 0
IsModelSize = AreBoth (IsSize members_in) AreNamed

-- how many routines and how many instructions
abbrev pub IsProgramSize : Size → List Routine → Type 0
IsProgramSize = IsSize instrs_in

abbrev pub AreProgramSizes : Size × Size → List Routine × List Routine → Type 0
AreProgramSizes = AreBoth IsProgramSize IsProgramSize

abbrev pub IsMostSize : (Size × (Size × ℕ)) × (Size × Size) → MostFields → Type 0
IsMostSize = AreBoth IsModelSize AreProgramSizes

abbrev pub IsOldSize : (Size × (Size × ℕ)) × Size → OldFields → Type 0
IsOldSize = AreBoth IsModelSize IsProgramSize

-- behind which the uses stand
abbrev pub IsTableSize : ((Size × (Size × ℕ)) × (Size × Size)) × ℕ → TableFields → Type 0
IsTableSize told x = IsMostSize told.0 x.0

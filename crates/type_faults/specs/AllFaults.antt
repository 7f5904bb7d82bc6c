-- The faults of a specification's types, one behind another: a part that is refused is left out, and what is lowered
-- behind it is lowered as if it weren't there.
use Rattle.std.specs.Prelude.{◌≡◌, ◌⊎◌, ◌≤◌, ℕ, suc, Bool, true, false, List, [], ◌∷◌, ◌++◌, length, map, Ok, Err}
use Rattle.std.specs.List.{flat_map}
use Rattle.idl_lexer.specs.declared.token.Token.{Token}
use Rattle.idl_lexer.specs.Tokens.{TokenParts, parts_of}
use Rattle.idl_tree.specs.declared.definitions.Definition.{Definition}
use Rattle.idl_tree.specs.DefinitionLevels.{levels_of}
use Rattle.idl_tree.specs.DefinitionYields.{definitions_spelled}
use Rattle.idl_tree.specs.Pieces.{Spell}
use Rattle.scoped_names.specs.declared.fault.NameFault.{NameFault}
use Rattle.scoped_names.specs.FileNames.{AreNames, FileNames, names_of}
use Rattle.lowered_types.specs.declared.fault.BuildFault.{BuildFault}
use Rattle.lowered_types.specs.declared.fault.BuildFault.TheVariants.{Types, OtherNames, NoMemory}
use Rattle.lowered_types.specs.declared.fault.TypeFault.{TypeFault}
use Rattle.lowered_operations.specs.Definitions.{defined_by}
use Rattle.lowered_operations.specs.Operations.{Defined}
use Rattle.type_faults.specs.declared.reading.Reading.{Reading}
use Rattle.type_faults.specs.declared.reading.Reading.TheVariants.{Lowered, Refused, Nothing}
use Rattle.type_faults.specs.declared.all_faults.TypeFaults.{TypeFaults}
use Rattle.type_faults.specs.Parts.{left}

-- the definitions that tokens spell which say this
pub record IsTree (said : List TokenParts) (definitions : List Definition) : Type 0 where
  pub tokens : List Token
  pub said_by : map parts_of tokens ≡ said
  pub spelled : Spell (definitions_spelled definitions) tokens
  pub few : levels_of definitions ≤ 64

-- tokens are those of a specification, and it declares the names
pub record HaveNames (tokens : List Token) (names : FileNames) : Type 0 where
  pub definitions : List Definition
  pub spelled : Spell (definitions_spelled definitions) tokens
  pub named : AreNames definitions names

-- under the names that tokens declare these definitions are lowered
pub record IsLowered (tokens : List Token) (said : List TokenParts) : Type 0 where
  pub names : FileNames
  pub named : HaveNames tokens names
  pub definitions : List Definition
  pub tree : IsTree said definitions
  pub lowered : Defined
  pub told : defined_by names.entries definitions ≡ Ok lowered

-- or this is their first fault
pub record HasFault (tokens : List Token) (said : List TokenParts) (fault : BuildFault) : Type 0 where
  pub names : FileNames
  pub named : HaveNames tokens names
  pub definitions : List Definition
  pub tree : IsTree said definitions
  pub told : defined_by names.entries definitions ≡ Err fault

abbrev pub HasNoTree : List TokenParts → Type 0
HasNoTree said = (definitions : List Definition) → IsTree said definitions → ⊥

-- tokens are those of a specification whose names have a fault
pub record HaveNoNames (tokens : List Token) : Type 0 where
  pub definitions : List Definition
  pub spelled : Spell (definitions_spelled definitions) tokens
  pub fault : NameFault
  pub told : names_of definitions ≡ Err fault

-- what there is to read under the names that tokens declare
abbrev pub Reads : List Token → List TokenParts → Reading → Type 0
Reads tokens said Lowered = IsLowered tokens said
Reads tokens said (Refused fault) = HasFault tokens said fault
Reads tokens said Nothing = HaveNoNames tokens ⊎ HasNoTree (map parts_of tokens) ⊎ HasNoTree said

-- ---- parts that are refused

-- one more part is refused where these are left out: what stands before it is lowered, what ends with it isn't. The
-- fault is the first that is left.
pub record IsRefused (tokens : List Token) (refused : List ℕ) (part : ℕ × BuildFault) : Type 0 where
  pub told : HasFault tokens (left (length tokens) refused tokens) part.1
  pub before : IsLowered tokens (left part.0 refused tokens)
  pub other : BuildFault
  pub behind : HasFault tokens (left (suc part.0) refused tokens) other

-- each of these is refused, where those before it are left out
abbrev pub AreRefused : List Token → List ℕ → List (ℕ × BuildFault) → Type 0
AreRefused tokens refused [] = Unit {0}
AreRefused tokens refused (part ∷ parts) =
    IsRefused tokens refused part × AreRefused tokens (refused ++ part.0 ∷ []) parts

abbrev pub numbers_of : List (ℕ × BuildFault) → List ℕ
numbers_of parts = map (λ part. part.0) parts

-- a part that needs what a refused one would have declared tells nothing
abbrev pub told_of : BuildFault → List TypeFault
told_of (Types fault) = fault ∷ []
told_of OtherNames = []
told_of NoMemory = []

abbrev pub told_by : ℕ × BuildFault → List TypeFault
told_by part = told_of part.1

-- ---- what is told of all

-- no part more is found where these are left out: there is nothing to read, or what is left isn't lowered even where
-- all parts are left out
abbrev pub IsStuck : List Token → List ℕ → Type 0
IsStuck tokens refused =
    ((kept : ℕ) × Reads tokens (left kept refused tokens) Nothing)
    ⊎ ((fault : BuildFault) × HasFault tokens (left 0 refused tokens) fault)

-- as many are told as were asked for, or 64 parts are refused, or no more is found
abbrev pub IsCut : List Token → ℕ → List ℕ → ℕ → Type 0
IsCut tokens most refused told = (most ≤ told) ⊎ (64 ≤ length refused) ⊎ IsStuck tokens refused

-- all are told where the rest is lowered
abbrev pub Ends : List Token → ℕ → List ℕ → TypeFaults → Bool → Type 0
Ends tokens most refused faults true = IsLowered tokens (left (length tokens) refused tokens)
Ends tokens most refused faults false = IsCut tokens most refused (length faults.first.items)

-- the faults are those that the first refused parts tell
pub record AreFirst (tokens : List Token) (most : ℕ) (faults : TypeFaults) : Type 0 where
  pub parts : List (ℕ × BuildFault)
  pub refused : AreRefused tokens [] parts
  pub first : faults.first.items ≡ flat_map told_by parts
  pub few : length faults.first.items ≤ most
  pub ends : Ends tokens most (numbers_of parts) faults faults.is_all

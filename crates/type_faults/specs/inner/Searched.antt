-- What is known while refused parts are looked for.
use Rattle.std.specs.Prelude.{◌≡◌, ◌≢◌, ◌≤◌, ◌<◌, ◌+◌, ◌^◌, ℕ, suc, List, [], length, Option, Some, None, Ok, Err}
use Rattle.std.specs.List.{flat_map}
use Rattle.idl_lexer.specs.declared.token.Token.{Token}
use Rattle.idl_lexer.specs.Tokens.{TokenParts}
use Rattle.idl_parser.specs.declared.fault.ParseFault.{ParseFault}
use Rattle.idl_parser.specs.declared.fault.ParseFault.TheVariants.{NoMemory}
use Rattle.idl_tree.specs.declared.definitions.Definition.{Definition}
use Rattle.scoped_names.specs.declared.fault.NameFault.{NameFault}
use Rattle.scoped_names.specs.FileNames.{AreNames, FileNames, names_of}
use Rattle.lowered_operations.specs.Definitions.{defined_by}
use Rattle.lowered_types.specs.declared.fault.BuildFault.{BuildFault}
use Rattle.lowered_types.specs.declared.fault.TypeFault.{TypeFault}
use Rattle.lowered_operations.specs.Operations.{Defined}
use Rattle.type_faults.specs.declared.parts.Mode.{Mode}
use Rattle.type_faults.specs.declared.parts.Mode.TheVariants.{Between, Head, Within}
use Rattle.type_faults.specs.declared.parts.Scan.{Scan}
use Rattle.type_faults.specs.declared.reading.Reading.{Reading}
use Rattle.type_faults.specs.declared.reading.Reading.TheVariants.{Lowered, Refused, Nothing as NothingRead}
use Rattle.type_faults.specs.declared.all_faults.Found.{Found}
use Rattle.type_faults.specs.declared.all_faults.Found.TheVariants.{Nothing, Part, Stuck}
use Rattle.type_faults.specs.Parts.{left}
use Rattle.type_faults.specs.AllFaults.{AreRefused, HasFault, IsLowered, IsRefused, IsStuck, numbers_of, told_by}

-- how many braces of a part are open
abbrev pub depth_of : Mode → ℕ
depth_of Between = 0
depth_of Head = 0
depth_of (Within depth) = depth

-- the numbers are small enough for one token more
pub record HasRoom (s : Scan) : Type 0 where
  pub depth : depth_of s.mode + 1 < 2 ^ 64
  pub parts : s.parts + 1 < 2 ^ 64

-- what there is to read of definitions under the names of others
abbrev pub ReadAs : List Definition → List Definition → Reading → Type 0
ReadAs own definitions Lowered =
    (names : FileNames) × AreNames own names
    × ((lowered : Defined) × (defined_by names.entries definitions ≡ Ok lowered))
ReadAs own definitions (Refused fault) =
    (names : FileNames) × AreNames own names × (defined_by names.entries definitions ≡ Err fault)
ReadAs own definitions NothingRead = (fault : NameFault) × (names_of own ≡ Err fault)

-- nothing is read where the grammar is refused
abbrev pub IsUnread : ParseFault → Reading → Type 0
IsUnread fault Lowered = ⊥
IsUnread fault (Refused found) = ⊥
IsUnread fault NothingRead = fault ≢ NoMemory

abbrev pub IsFaulty : List Token → List TokenParts → Type 0
IsFaulty tokens said = (fault : BuildFault) × HasFault tokens said fault

-- what is found of the part with which tokens aren't lowered any more
abbrev pub Narrows : List Token → List ℕ → Option ℕ → Type 0
Narrows tokens refused None = IsStuck tokens refused
Narrows tokens refused (Some part) =
    IsLowered tokens (left part refused tokens) × IsFaulty tokens (left (suc part) refused tokens)

abbrev pub Finds : List Token → List ℕ → Found → Type 0
Finds tokens refused Nothing = IsLowered tokens (left (length tokens) refused tokens)
Finds tokens refused (Part part fault) = IsRefused tokens refused (part, fault)
Finds tokens refused Stuck = IsStuck tokens refused

-- these parts are refused, and this is told
pub record Stands (tokens : List Token) (most : ℕ) (refused : List ℕ) (told : List TypeFault) : Type 0 where
  pub parts : List (ℕ × BuildFault)
  pub are : AreRefused tokens [] parts
  pub numbers : refused ≡ numbers_of parts
  pub first : told ≡ flat_map told_by parts
  pub few : length told ≤ most

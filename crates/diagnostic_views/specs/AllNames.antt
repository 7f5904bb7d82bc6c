-- All faults of a text's names.
use Rattle.std.specs.Prelude.{◌≡◌, ◌≤◌, ℕ, List, length, min, take}
use Rattle.idl_lexer.specs.declared.token.Token.{Token}
use Rattle.idl_tree.specs.declared.definitions.Definition.{Definition}
use Rattle.idl_tree.specs.Pieces.{Spell}
use Rattle.idl_tree.specs.DefinitionYields.{definitions_spelled}
use Rattle.idl_tree.specs.DefinitionLevels.{levels_of}
use Rattle.scoped_names.specs.AllFaults.{all_faults}
use Rattle.scoped_names.specs.declared.all_faults.NameFaults.{NameFaults}

-- the first of all faults of definitions, so many at most, and how many there are, 2^64 - 1 at most
pub record AreFirstOf (definitions : List Definition) (most : ℕ) (faults : NameFaults) : Type 0 where
  pub first : faults.first.items ≡ take most (all_faults definitions)
  pub count : faults.count ≡ min (length (all_faults definitions)) 18446744073709551615

-- those of the definitions that the tokens spell, at most 64 levels one inside another
pub record AreFaultsIn (tokens : List Token) (most : ℕ) (faults : NameFaults) : Type 0 where
  pub definitions : List Definition
  pub spelled : Spell (definitions_spelled definitions) tokens
  pub levels : levels_of definitions ≤ 64
  pub are : AreFirstOf definitions most faults

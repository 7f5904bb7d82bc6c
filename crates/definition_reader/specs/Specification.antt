-- When tokens are a whole specification (ISO/IEC 19500-1, IDL grammar: `<specification>`).
use Rattle.std.specs.Prelude.{◌≡◌, ◌≤◌, ℕ, List, [], ◌∷◌, Some, true}
use Rattle.idl_lexer.specs.Tokens.{parts_of}
use Rattle.idl_tree.specs.declared.names.Leaf.{Leaf}
use Rattle.idl_tree.specs.declared.definitions.Definition.{Definition}
use Rattle.idl_tree.specs.DefinitionYields.{definitions_spelled}
use Rattle.idl_tree.specs.DefinitionLevels.{levels_of}
use Rattle.idl_tree.specs.Pieces.{Seen, past, is_end}
use Rattle.idl_tree.specs.DefinitionDescent.{definitions_way}

-- all of some tokens are what definitions spell, which have no more levels than these
pub record Whole (levels : ℕ) (tokens : List Seen) (definitions : List Definition) : Type 0 where
  pub spells : is_end (past (definitions_spelled definitions) (Some tokens)) ≡ true
  pub few : levels_of definitions ≤ levels

-- the tokens are those of no specification within so many levels
abbrev pub IsNoSpec : ℕ → List Seen → Type 0
IsNoSpec levels tokens = definitions_way levels tokens ≡ Some [] → ⊥

-- of some tokens the first is this one, with its number
abbrev pub IsNext : Leaf → List Seen → Type 0
IsNext l [] = ⊥
IsNext l (t ∷ ts) = t.token ≡ (l.number, parts_of l.token)

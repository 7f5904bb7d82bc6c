-- What one step over the source finds.
use Rattle.std.specs.Prelude.{ℕ, ◌<◌, ◌≤◌, ◌⊎◌, List, length}
use Rattle.idl_lexer.specs.declared.lexeme.Lexeme.{Lexeme}
use Rattle.idl_lexer.specs.Lexemes.{IsForm}
use Rattle.idl_lexer.specs.Words.{IsIdentifier, IsKeyword}

-- behind `before`, s begins with this lexeme
pub record IsLexeme (before s : List ℕ) (l : Lexeme) : Type 0 where
  pub long : 0 < l.len
  pub within : l.len ≤ length s
  pub form : IsForm l.kind before s l.len

-- s begins with no identifier and no keyword
abbrev pub HasNoWord : List ℕ → Type 0
HasNoWord s = (n : ℕ) → IsIdentifier s n ⊎ IsKeyword s n → ⊥

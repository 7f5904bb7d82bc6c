-- What a token of each kind looks like.
use Rattle.std.specs.Prelude.{◌≡◌, ℕ, true, List, [], length}
use Rattle.std.specs.Char.{is_ascii}
use Rattle.std.specs.List.{list_all}
use Rattle.idl_lexer.specs.declared.token.Kind.{Kind}
use Rattle.idl_lexer.specs.declared.token.Kind.TheVariants.{Ident, Keyword, Punct, Number, CharLit, TextLit, Pragma}
use Rattle.idl_lexer.specs.Words.{IsIdentifier, IsKeyword}
use Rattle.idl_lexer.specs.Numbers.{IsInteger}
use Rattle.idl_lexer.specs.Punctuation.{is_punctuation}
use Rattle.idl_lexer.specs.Literals.{IsCharLiteral, IsTextLiteral}
use Rattle.idl_lexer.specs.Directives.{IsFresh, IsKept, line_of}

-- a pragma that is kept, where only blanks stand before it on its line
pub record IsPragmaLine (before s : List ℕ) (n : ℕ) : Type 0 where
  pub fresh : IsFresh before
  pub ascii : list_all is_ascii (line_of s) ≡ true
  pub form : IsKept (line_of s)
  pub whole : n ≡ length (line_of s)

-- behind `before`, s begins with a token of this kind of n octets
abbrev pub Begins : Kind → List ℕ → List ℕ → ℕ → Type 0
Begins Ident before s n = IsIdentifier s n
Begins Keyword before s n = IsKeyword s n
Begins Punct before s n = is_punctuation s n ≡ true
Begins Number before s n = IsInteger s n
Begins CharLit before s n = IsCharLiteral s n
Begins TextLit before s n = IsTextLiteral s n
Begins Pragma before s n = IsPragmaLine before s n

-- the text is one token of this kind, and nothing more (∥ .. ∥₁ keeps that it is one, and not in which way)
abbrev pub HasForm : Kind → List ℕ → Type 0
HasForm kind text = ∥ Begins kind [] text (length text) ∥₁

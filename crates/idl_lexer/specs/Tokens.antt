-- The tokens of a source.
use Rattle.std.specs.Prelude.{◌≡◌, ℕ, ◌+◌, ◌-◌, ◌<◌, ◌≤◌, List, [], ◌∷◌, length, take, drop, slice_range, count_by}
use Rattle.std.specs.List.{All}
use Rattle.idl_lexer.specs.declared.token.Kind.{Kind}
use Rattle.idl_lexer.specs.declared.token.Kind.TheVariants.{Ident}
use Rattle.idl_lexer.specs.declared.token.Token.{Token}
use Rattle.idl_lexer.specs.Octets.{is_line_feed}
use Rattle.idl_lexer.specs.Words.{unescaped}
use Rattle.idl_lexer.specs.Forms.{Begins}
use Rattle.idl_lexer.specs.Gaps.{IsGap}

-- where the source goes on behind a token
abbrev pub end_of : Token → ℕ
end_of t = t.start + length t.text.now

-- the token is what its span says
pub record StandsIn (source : List ℕ) (t : Token) : Type 0 where
  pub rises : t.start < end_of t
  pub within : end_of t ≤ length source
  pub text : t.text.now ≡ slice_range source t.start (end_of t)
  pub form : Begins t.kind (take t.start source) (drop t.start source) (end_of t - t.start)

-- from one place to another the source consists of these tokens, and of what is skippable before,
-- between and after them
abbrev pub LexedPart : List ℕ → ℕ → List Token → ℕ → Type 0
LexedPart source from [] stop = IsGap source from stop
LexedPart source from (t ∷ ts) stop =
    IsGap source from t.start × StandsIn source t × LexedPart source (end_of t) ts stop

-- the tokens of a whole source
abbrev pub Lexed : List ℕ → List Token → Type 0
Lexed source tokens = LexedPart source 0 tokens (length source)

-- the line of a place: one more than the line feeds before it
abbrev pub line_at : List ℕ → ℕ → ℕ
line_at source place = count_by is_line_feed (take place source) + 1

-- each token has the line of its start
abbrev pub HaveLines : List ℕ → List Token → Type 0
HaveLines source tokens = All (λ t. t.line ≡ line_at source t.start) tokens

-- what a token says: its kind, its text, where it stands and its line
pub record TokenParts : Type 0 where
  pub kind : Kind
  pub text : List ℕ
  pub start : ℕ
  pub «end» : ℕ
  pub line : ℕ

abbrev pub parts_of : Token → TokenParts
parts_of t = record { kind = t.kind; text = t.text.now; start = t.start; «end» = end_of t; line = t.line }

-- the name that a token stands for: of an identifier without one leading underscore
abbrev pub name_of : Kind → List ℕ → List ℕ
name_of Ident text = unescaped text
name_of _ text = text

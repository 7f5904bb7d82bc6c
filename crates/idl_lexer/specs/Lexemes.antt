-- What may stand at a place of a source.
use Rattle.std.specs.Prelude.{ℕ, List, Option, Some, None}
use Rattle.idl_lexer.specs.declared.token.Kind.{Kind}
use Rattle.idl_lexer.specs.Gaps.{Skips}
use Rattle.idl_lexer.specs.Forms.{Begins}

abbrev pub IsForm : Option Kind → List ℕ → List ℕ → ℕ → Type 0
IsForm None before s n = Skips before s n
IsForm (Some kind) before s n = Begins kind before s n

-- behind `before`, s begins with no token and with nothing that is skipped
abbrev pub HasNoForm : List ℕ → List ℕ → Type 0
HasNoForm before s = (form : Option Kind) (n : ℕ) → IsForm form before s n → ⊥

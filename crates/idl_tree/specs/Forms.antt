-- The tokens of a tree: each has the form of its kind, and its number is its place.
use Rattle.std.specs.Prelude.{◌≡◌, ℕ, ◌+◌, List, [], ◌∷◌, Option, Some, None}
use Rattle.std.specs.List.{AllByRecursion}
use Rattle.idl_lexer.specs.declared.token.Kind.{Kind}
use Rattle.idl_lexer.specs.Forms.{HasForm}
use Rattle.idl_lexer.specs.Tokens.{TokenParts}
use Rattle.idl_tree.specs.declared.names.Leaf.{Leaf}
use Rattle.idl_tree.specs.Pieces.{Piece}

-- the text of the leaf is one token of the kind
abbrev pub IsLeafOf : Kind → Leaf → Type 0
IsLeafOf kind l = HasForm kind l.token.text.now

-- each piece has a text of its kind's form
abbrev pub HaveForms : List Piece → Type 0
HaveForms pieces = AllByRecursion (λ p. HasForm p.kind p.text) pieces

-- the token of a piece has the number n, if the tree keeps it
abbrev pub IsNumbered : ℕ → Option (ℕ × TokenParts) → Type 0
IsNumbered n None = Unit {0}
IsNumbered n (Some token) = token.0 ≡ n

-- the tokens that the tree keeps have the numbers of their places, where that of the first piece is n
abbrev pub AreNumbered : ℕ → List Piece → Type 0
AreNumbered n [] = Unit {0}
AreNumbered n (p ∷ ps) = IsNumbered n p.token × AreNumbered (n + 1) ps

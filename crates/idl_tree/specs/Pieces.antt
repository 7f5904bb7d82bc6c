-- What a tree says of tokens, and when tokens are what a tree says.
use Rattle.std.specs.Prelude.{◌≡◌, ℕ, ◌+◌, Bool, true, false, not, ◌||◌, ◌&&◌, nat_eq, List, [], ◌∷◌, Option, Some, None}
use Rattle.std.specs.Str.{bytes_eq}
use Rattle.idl_lexer.specs.declared.token.Kind.{Kind}
use Rattle.idl_lexer.specs.declared.token.Kind.TheVariants.{Ident, Keyword, Punct, Number, CharLit, TextLit, Pragma}
use Rattle.idl_lexer.specs.declared.token.Token.{Token}
use Rattle.idl_lexer.specs.Tokens.{TokenParts, end_of, parts_of}
use Rattle.idl_tree.specs.declared.names.Leaf.{Leaf}

-- what a tree says of a token: its kind and its text; its number and all that the lexer says of it, where the tree
-- keeps the token; and that the next token has to touch it
pub record Piece : Type 0 where
  pub kind : Kind
  pub text : List ℕ
  pub token : Option (ℕ × TokenParts)
  pub touches : Bool

-- a token among others: its number and what the lexer says of it, and whether the next token touches it
pub record Seen : Type 0 where
  pub kind : Kind
  pub text : List ℕ
  pub token : ℕ × TokenParts
  pub touches : Bool

-- the next token begins where this one ends
abbrev pub touches_next : Token → List Token → Bool
touches_next t [] = false
touches_next t (u ∷ us) = nat_eq (end_of t) u.start

-- tokens, of which the first has the number n
abbrev pub seen_from : ℕ → List Token → List Seen
seen_from n [] = []
seen_from n (t ∷ ts) =
    record { kind = t.kind; text = t.text.now; token = (n, parts_of t); touches = touches_next t ts }
    ∷ seen_from (n + 1) ts

abbrev pub kind_code : Kind → ℕ
kind_code Ident = 0
kind_code Keyword = 1
kind_code Punct = 2
kind_code Number = 3
kind_code CharLit = 4
kind_code TextLit = 5
kind_code Pragma = 6

-- two tokens are of one kind and one text, and stand at one place
abbrev pub are_same : TokenParts → TokenParts → Bool
are_same a b =
    nat_eq (kind_code a.kind) (kind_code b.kind) && bytes_eq a.text b.text && nat_eq a.start b.start
    && nat_eq a.«end» b.«end» && nat_eq a.line b.line

-- the token is the one that is kept, if one is
abbrev pub is_kept : Option (ℕ × TokenParts) → ℕ × TokenParts → Bool
is_kept None t = true
is_kept (Some k) t = nat_eq k.0 t.0 && are_same k.1 t.1

-- the token is what the piece says
abbrev pub is_piece : Piece → Seen → Bool
is_piece p t =
    nat_eq (kind_code p.kind) (kind_code t.kind) && bytes_eq p.text t.text && is_kept p.token t.token
    && (not p.touches || t.touches)

-- the tokens behind the first, which has to be what the piece says
abbrev pub behind : Piece → Option (List Seen) → Option (List Seen)
behind p None = None
behind p (Some []) = None
behind p (Some (t ∷ ts)) = elim (is_piece p t) [ true ↦ Some ts | false ↦ None ]

-- the tokens behind those that are these pieces, one after another
unfoldable pub past : List Piece → Option (List Seen) → Option (List Seen)
past [] tokens = tokens
past (p ∷ ps) tokens = past ps (behind p tokens)

abbrev pub is_end : Option (List Seen) → Bool
is_end (Some []) = true
is_end (Some (t ∷ ts)) = false
is_end None = false

-- the pieces are these tokens, numbered from 0, from the first to the last
abbrev pub Spell : List Piece → List Token → Type 0
Spell spelled tokens = is_end (past spelled (Some (seen_from 0 tokens))) ≡ true

-- the piece of a token that isn't kept, as a list
unfoldable pub piece : Kind → List ℕ → List Piece
piece kind text = record { kind = kind; text = text; token = None; touches = false } ∷ []

-- the piece of a token that the tree keeps
unfoldable pub kept : Kind → List ℕ → Leaf → List Piece
kept kind text l =
    record { kind = kind; text = text; token = Some (l.number, parts_of l.token); touches = false } ∷ []

abbrev pub keyword : List ℕ → List Piece
keyword word = piece Keyword word

abbrev pub mark : List ℕ → List Piece
mark text = piece Punct text

-- a mark that the next token touches
unfoldable pub touching : List ℕ → List Piece
touching text = record { kind = Punct; text = text; token = None; touches = true } ∷ []

abbrev pub kept_keyword : List ℕ → Leaf → List Piece
kept_keyword word l = kept Keyword word l

abbrev pub kept_mark : List ℕ → Leaf → List Piece
kept_mark text l = kept Punct text l

-- a token whose text the tree keeps too
abbrev pub leaf : Kind → Leaf → List Piece
leaf kind l = kept kind l.token.text.now l

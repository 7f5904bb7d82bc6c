-- Punctuation: { } ; : :: , ( ) = < > [ ] | ^ & << + - * / %. A > is always alone.
use Rattle.std.specs.Prelude.{ℕ, Bool, not, ◌||◌, ◌&&◌, ◌==◌, List, slice_index, codes}
use Rattle.idl_lexer.specs.Octets.{is_one_of}

-- a and b are :: or <<
abbrev pub is_pair : ℕ → ℕ → Bool
is_pair a b = (a == 58 && b == 58) || (a == 60 && b == 60)

-- a and b are // or /*
abbrev pub opens_comment : ℕ → ℕ → Bool
opens_comment a b = a == 47 && (b == 47 || b == 42)

-- s begins with one mark of punctuation, n octets long
abbrev pub is_punctuation : List ℕ → ℕ → Bool
is_punctuation s n =
    (n == 2 && is_pair (slice_index s 0) (slice_index s 1))
    || (n == 1 && is_one_of (codes "{};:,()=<>[]|^&+-*/%") (slice_index s 0)
    && not (is_pair (slice_index s 0) (slice_index s 1))
    && not (opens_comment (slice_index s 0) (slice_index s 1)))

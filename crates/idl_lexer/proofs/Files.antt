-- The quoted file name of a line marker, from its front.
use Rattle.std.proofs.Common.{◌≡◌, ◌≢◌, ◌∙◌, ℕ, ◌+◌, ◌≤◌, List, length, slice_index, ap, refl, arith}
use Rattle.std.proofs.lemmas.List.{get_or_past}
use Rattle.idl_lexer.specs.Directives.{IsFile, IsFileText, none, plain, hidden}

-- from i to last no quote stands, except behind a backslash
pub data IsRest (s : List ℕ) (last : ℕ) : ℕ → Type 0 where
  done : (i : ℕ) → i ≡ last → IsRest s last i
  one : (i : ℕ) → slice_index s i ≢ 34 → slice_index s i ≢ 92 → IsRest s last (i + 1) → IsRest s last i
  two : (i : ℕ) → slice_index s i ≡ 92 → IsRest s last (i + 2) → IsRest s last i

before_rest : (s : List ℕ) (i j last : ℕ) → IsFileText s i j → IsRest s last j → IsRest s last i
before_rest s i j last none rest = rest
before_rest s i j last (plain k m text quote slash e) rest =
    before_rest s i k last text (one k quote slash (rw e at rest))
before_rest s i j last (hidden k m text slash e) rest = before_rest s i k last text (two k slash (rw e at rest))

pub whole_rest : (s r : List ℕ) (f : IsFile s r) → IsRest s f.last 1
whole_rest s r f = before_rest s 1 f.last f.last f.text (done f.last refl)

pub low : (s : List ℕ) (last i : ℕ) → IsRest s last i → i ≤ last
low s last i (done j e) = omega arith
low s last i (one j quote slash rest) = omega (arith, low s last (j + 1) rest)
low s last i (two j slash rest) = omega (arith, low s last (j + 2) rest)

-- at a quote it ends
pub at_quote : (s : List ℕ) (last i : ℕ) → slice_index s i ≡ 34 → IsRest s last i → i ≡ last
at_quote s last i e (done j f) = f
at_quote s last i e (one j quote slash rest) = absurd (quote e)
at_quote s last i e (two j slash rest) = absurd (omega arith)

-- elsewhere it goes on
pub behind_one : (s : List ℕ) (last i : ℕ) → slice_index s last ≡ 34 → slice_index s i ≢ 34 → slice_index s i ≢ 92
    → IsRest s last i → IsRest s last (i + 1)
behind_one s last i closes quote slash (done j e) = absurd (quote (ap (slice_index s) e ∙ closes))
behind_one s last i closes quote slash (one j quote2 slash2 rest) = rest
behind_one s last i closes quote slash (two j here rest) = absurd (slash here)

pub behind_two : (s : List ℕ) (last i : ℕ) → slice_index s last ≡ 34 → slice_index s i ≡ 92 → IsRest s last i
    → IsRest s last (i + 2)
behind_two s last i closes slash (done j e) = let no : slice_index s i ≡ 34 = ap (slice_index s) e ∙ closes in
    absurd (omega arith)
behind_two s last i closes slash (one j quote other rest) = absurd (other slash)
behind_two s last i closes slash (two j here rest) = rest

-- and it ends before the end
pub not_past : (s : List ℕ) (last i : ℕ) → slice_index s last ≡ 34 → length s ≤ i → IsRest s last i → ⊥
not_past s last i closes past rest = omega (arith, closes, get_or_past s last 0 (omega (arith, low s last i rest)))

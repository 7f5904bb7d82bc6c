-- Numbers of one width in a row: the gap before the first is the only one.
use Rattle.std.proofs.Common.{◌≡◌, ℕ, suc, ◌+◌, ◌*◌, ◌%◌, List, length, arith}
use Rattle.type_graph.specs.declared.width.Width.{Width}
use Rattle.type_graph.specs.declared.width.Width.TheVariants.{One, Two, Four, Eight}
use Rattle.type_graph.specs.Words.{Format, octets_in, pad}
use Rattle.type_graph.specs.Relation.{Relation, Then, Many}
use Rattle.type_graph.specs.Comparison.{Positions, Same, Ends}
use Rattle.type_graph.specs.Atoms.{Gap, AnyWord}
use Rattle.type_graph.proofs.RelationLaws.{same_refl, same_sym, same_trans, then_same, then_ends, same_ends, many_same, many_ends, then_assoc}
use Rattle.type_graph.proofs.AtomLaws.{held_word_long, many_long, gap_ends}
use Rattle.routine_checker.proofs.GapLaws.{no_gap_then, with_no_gap}

-- the multiples of the width
abbrev pub At : Width → Positions
At w p = p % octets_in w ≡ 0

no_gap_at : (w : Width) (p : ℕ) → At w p → pad p (octets_in w) ≡ 0
no_gap_at One p e = omega arith
no_gap_at Two p e = omega arith
no_gap_at Four p e = omega arith
no_gap_at Eight p e = omega arith

further : (w : Width) (p l : ℕ) → At w p → l ≡ octets_in w → At w (p + l)
further One p l e h = omega arith
further Two p l e h = omega arith
further Four p l e h = omega arith
further Eight p l e h = omega arith

-- a number ends where the next may stand
pub word_ends : {format : Format} {w : Width} → Ends (At w) (At w) (AnyWord format w)
word_ends {w = w} = record { at = λ p t x s r. further w p (length x) s (held_word_long p t x r) }

-- no gap is due at a multiple
pub no_gap_due : {format : Format} {w : Width} {R : Relation} → Same (At w) (Then (Gap format w) R) R
no_gap_due {w = w} = record {
  to = λ p t x s r. no_gap_then w p t x (no_gap_at w p s) r;
  from = λ p t x s r. with_no_gap w p t x (no_gap_at w p s) r;
}

-- from a multiple on, numbers are numbers with their gaps
words_at : (format : Format) (w : Width) (n : ℕ)
    → Same (At w) (Many n (AnyWord format w)) (Many n (Then (Gap format w) (AnyWord format w)))
words_at format w n = many_same n (same_sym no_gap_due) word_ends

-- behind the gap before the first of one or more
pub aligned_words : {S : Positions} (format : Format) (w : Width) (n : ℕ)
    → Same S (Then (Gap format w) (Many (suc n) (AnyWord format w)))
    (Many (suc n) (Then (Gap format w) (AnyWord format w)))
aligned_words format w n =
    same_trans (same_sym then_assoc)
    (then_same {X = At w} same_refl
    (record {
      at = λ p t x s r.
          (then_ends (gap_ends {format = format} {w = w}) (word_ends {format = format} {w = w})).at p t x tt r;
    })
    (words_at format w n))

-- they end at a multiple
pub aligned_words_end : {S : Positions} (format : Format) (w : Width) (n : ℕ)
    → Ends S (At w) (Many (suc n) (Then (Gap format w) (AnyWord format w)))
aligned_words_end format w n =
    then_ends {X = At w} (record {
      at =
          λ p t x s r. (then_ends (gap_ends {format = format} {w = w}) (word_ends {format = format} {w = w})).at p t x
          tt r;
    })
    (same_ends (words_at format w n) (many_ends n word_ends))

-- n numbers have n times the octets of one
pub words_long : (format : Format) (w : Width) (n p : ℕ) (tape octets : List ℕ)
    → Many n (AnyWord format w) p tape octets → length octets ≡ n * octets_in w
words_long format w n = many_long {R = AnyWord format w} (octets_in w) n (λ p t x r. held_word_long p t x r)

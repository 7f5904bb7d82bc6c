-- Sets of positions, of which only the value modulo 8 matters. A set is a number below 256: its bit p is 1 where the
-- positions whose value modulo 8 is p are among it.
use Rattle.std.specs.Prelude.{ℕ, zero, suc, ◌+◌, ◌%◌, ◌^◌, Bool, true, not, ◌&&◌, ◌||◌, eqb, List, slice_index_or}
use Rattle.std.specs.Prelude.{if◌then◌else◌, bit_or, IsTrue}
use Rattle.std.specs.Int.{bit_at}
use Rattle.type_graph.specs.declared.width.Width.{Width}
use Rattle.type_graph.specs.declared.width.Width.TheVariants.{One, Two, Four, Eight}
use Rattle.type_graph.specs.Words.{octets_in, pad}
use Rattle.type_graph.specs.Comparison.{Positions}

abbrev pub has : ℕ → ℕ → Bool
has set p = eqb (bit_at set (p % 8)) 1

-- the positions of a set
abbrev pub Among : ℕ → Positions
Among set p = IsTrue (has set p)

-- the fact holds at each of the first places that is in the set
abbrev pub at_places : ℕ → ℕ → (ℕ → Bool) → Bool
at_places zero set holds = true
at_places (suc n) set holds = at_places n set holds && (holds n || not (has set n))

-- the fact holds at each place of the set
unfoldable pub each_place : ℕ → (ℕ → Bool) → Bool
each_place set holds = at_places 8 set holds

-- what the first places of the set lead to, together
abbrev pub from_places : ℕ → ℕ → (ℕ → ℕ) → ℕ
from_places zero set to = 0
from_places (suc n) set to = bit_or (from_places n set to) (if has set n then to n else 0)

-- what the places of the set lead to, together
unfoldable pub gathered : ℕ → (ℕ → ℕ) → ℕ
gathered set to = from_places 8 set to

abbrev pub is_within : ℕ → ℕ → Bool
is_within set other = each_place set (has other)

-- where octets end that start behind the gap to the width at a place of the set, n of them
abbrev pub moved : ℕ → Width → ℕ → ℕ
moved set width n = gathered set (λ p. 2 ^ ((p + pad p (octets_in width) + n) % 8))

-- where a routine of these exits ends that starts at a place of the set
abbrev pub left : ℕ → List ℕ → ℕ
left set exits = gathered set (λ p. slice_index_or exits p 0)

-- where it starts if it is done again and again, so often at most
unfoldable pub closure : ℕ → List ℕ → ℕ → ℕ
closure zero exits set = set
closure (suc n) exits set = closure n exits (bit_or set (left set exits))

-- the gap that is made is the one that is due, at each place of the set
abbrev pub gaps_agree : ℕ → Width → Width → Bool
gaps_agree set made due = each_place set (λ p. eqb (pad p (octets_in made)) (pad p (octets_in due)))

-- the gap that is made is none, or the one that what follows begins with
abbrev pub gaps_serve : ℕ → Width → Width → Bool
gaps_serve set made lead =
    each_place set (λ p. eqb (pad p (octets_in made)) 0 || eqb (pad p (octets_in made)) (pad p (octets_in lead)))

-- the positions that are multiples of the width
abbrev pub multiples : Width → ℕ
multiples One = 0xFF
multiples Two = 0x55
multiples Four = 0x11
multiples Eight = 0x01

-- Numbers as octets, and the octets between them. The clauses that are named here and in the files beside this one are
-- those of ISO/IEC 19500-2 on the CDR transfer syntax. A rule marked (own) is this project's, where the standard leaves
-- a choice open or says more.
use Rattle.std.specs.Prelude.{◌≡◌, ℕ, ◌-◌, ◌*◌, ◌%◌, ◌^◌, ◌<◌, ℤ, pos, negsuc, List, length}
use Rattle.std.specs.Int.{bytes_high_first, bytes_low_first}
use Rattle.std.specs.List.{AllByRecursion}
use Rattle.type_graph.specs.declared.width.Width.{Width}
use Rattle.type_graph.specs.declared.width.Width.TheVariants.{One, Two, Four, Eight}
use Rattle.type_graph.specs.declared.width.Order.{Order}
use Rattle.type_graph.specs.declared.width.Order.TheVariants.{Big, Little}

-- how many patterns k octets have
abbrev pub patterns : ℕ → ℕ
patterns k = 2 ^ (8 * k)

-- k octets of an unsigned number: the highest first in big order, the lowest first in little order (primitive types)
abbrev pub plain_octets : Order → ℕ → ℕ → List ℕ
plain_octets Big k n = bytes_high_first k n
plain_octets Little k n = bytes_low_first 0 k n

-- the pattern of k octets that stands for a number; negsuc n is the number - 1 - n (primitive types: signed integers)
abbrev pub twos_complement : ℕ → ℤ → ℕ
twos_complement k (pos n) = n
twos_complement k (negsuc n) = patterns k - 1 - n

-- k octets of a number in a byte order
abbrev pub octets_of : Order → ℕ → ℤ → List ℕ
octets_of order k n = plain_octets order k (twos_complement k n)

-- CDR has numbers of 1, 2, 4 and 8 octets; the position of one is a multiple of its size (alignment).
abbrev pub octets_in : Width → ℕ
octets_in One = 1
octets_in Two = 2
octets_in Four = 4
octets_in Eight = 8

-- the wider of two: what is a multiple of it is a multiple of both
abbrev pub wider : Width → Width → Width
wider One v = v
wider Two One = Two
wider Two v = v
wider Four Eight = Eight
wider Four v = Four
wider Eight v = Eight

abbrev pub words_of : Width → ℕ
words_of w = patterns (octets_in w)

abbrev pub plain_word : Order → Width → ℕ → List ℕ
plain_word order w n = plain_octets order (octets_in w) n

-- the octets of a number of the width in a byte order
abbrev pub word : Order → Width → ℤ → List ℕ
word order w n = octets_of order (octets_in w) n

-- how many octets lie between position p and the next multiple of k: the least number q with p + q divisible by k
abbrev pub pad : ℕ → ℕ → ℕ
pad p k = (k - p % k) % k

-- each number is below the limit
abbrev pub AllBelow : ℕ → List ℕ → Type 0
AllBelow limit = AllByRecursion (λ n. n < limit)

-- What may stand in a gap. The standard leaves the octets of a gap undefined (alignment); a reader takes any, and a
-- writer leaves zeros (own).
pub data Padding : Type 0 where
  Zeros : Padding
  AnyOctets : Padding

-- how octets stand for numbers: their byte order, and what is in the gaps
pub record Format : Type 0 where
  pub order : Order
  pub padding : Padding

abbrev pub reading : Order → Format
reading byte_order = record { order = byte_order; padding = AnyOctets }

abbrev pub writing : Order → Format
writing byte_order = record { order = byte_order; padding = Zeros }

abbrev pub IsPadding : Padding → List ℕ → Type 0
IsPadding Zeros = AllBelow 1
IsPadding AnyOctets = AllBelow 256

-- the octets between position p and the next multiple of the width
pub record IsGap (format : Format) (w : Width) (p : ℕ) (gap : List ℕ) : Type 0 where
  pub long : length gap ≡ pad p (octets_in w)
  pub filled : IsPadding format.padding gap

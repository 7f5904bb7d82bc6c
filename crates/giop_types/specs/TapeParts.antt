-- The tapes of the parts of which headers, profiles and object references are made.
use Rattle.std.specs.Prelude.{◌≡◌, ℕ, ◌^◌, ◌<◌, pos, List, [], ◌∷◌, ◌++◌, length, map}
use Rattle.std.specs.List.{AllByRecursion}
use Rattle.type_graph.specs.declared.width.Width.TheVariants.{Four}
use Rattle.type_graph.specs.declared.width.Order.TheVariants.{Big}
use Rattle.type_graph.specs.Words.{word}
use Rattle.giop_types.specs.declared.tapes.reading.Tagged.{Tagged}

-- octets behind their count, or a string behind its length
abbrev pub counted : List ℕ → List ℕ
counted octets = word Big Four (pos (length octets)) ++ octets

-- as many as a count can say
abbrev pub IsCounted : List ℕ → Type 0
IsCounted octets = length octets < 2 ^ 32

-- a tag, and counted octets
abbrev pub tagged : ℕ × List ℕ → List ℕ
tagged one = word Big Four (pos one.0) ++ counted one.1

pub record IsTagged (one : ℕ × List ℕ) : Type 0 where
  pub tag : one.0 < 2 ^ 32
  pub octets : IsCounted one.1

-- one behind the other
abbrev pub tagged_each : List (ℕ × List ℕ) → List ℕ
tagged_each [] = []
tagged_each (one ∷ more) = tagged one ++ tagged_each more

-- behind their count
abbrev pub tagged_list : List (ℕ × List ℕ) → List ℕ
tagged_list all = word Big Four (pos (length all)) ++ tagged_each all

pub record AreTagged (all : List (ℕ × List ℕ)) : Type 0 where
  pub short : length all < 2 ^ 32
  pub each : AllByRecursion IsTagged all

-- so many at the front of a tape, and the rest
pub record AreFront (count : ℕ) (tape : List ℕ) (all : List (ℕ × List ℕ)) (rest : List ℕ) : Type 0 where
  pub many : length all ≡ count
  pub each : AllByRecursion IsTagged all
  pub front : tape ≡ tagged_each all ++ rest

-- what a tag with borrowed octets says
abbrev pub pair_of : Tagged → ℕ × List ℕ
pair_of one = (one.tag, one.octets.now)

abbrev pub pairs_of : List Tagged → List (ℕ × List ℕ)
pairs_of = map pair_of

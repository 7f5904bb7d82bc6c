-- What is said of a text that is refused.
use Rattle.std.specs.Prelude.{ℕ, ◌<◌, ◌≤◌, ◌^◌, ℤ, pos, negsuc, List, length}
use Rattle.std.specs.List.{AllByRecursion}
use Rattle.type_model.specs.PartNamesNames.{AreApart, names_at}
use Rattle.type_graph.specs.declared.node.Node.{Node}
use Rattle.json.specs.Token.{Token}
use Rattle.type_graph.specs.declared.node.Node.TheVariants.{Octet, Enum}
use Rattle.type_graph.specs.GraphRules.{IsGraph}
use Rattle.value_text.specs.declared.cursor.Stop.{Stop}
use Rattle.value_text.specs.declared.cursor.Stop.TheVariants.{Refused, NoMemory}

-- for want of memory, or for another cause, and then the fact holds
abbrev pub RefusesAs : Stop → Type 0 → Type 0
RefusesAs NoMemory fact = Unit {0}
RefusesAs (Refused wanted at) fact = fact

-- a number of 64 bits, with a sign or without
abbrev pub IsShort : ℤ → Type 0
IsShort (pos n) = n < 2 ^ 64
IsShort (negsuc n) = n < 2 ^ 63

abbrev pub AreOctets : List ℕ → Type 0
AreOctets octets = AllByRecursion (λ octet. octet < 256) octets

-- an enumeration isn't too long
abbrev pub IsLow : Node → Type 0
IsLow (Enum limit) = limit ≤ 65536
IsLow node = Unit {0}

-- no two names of the node are equal; an octet's names mean nothing
abbrev pub IsNamed : Node → List (List ℕ) → Type 0
IsNamed Octet labels = Unit {0}
IsNamed node labels = AreApart labels

-- the rules of a graph, and names that differ
pub record AreSound (names : List (List (List ℕ))) (graph : List Node) : Type 0 where
  pub rules : IsGraph graph
  pub apart : (number : ℕ) → number < length graph → AreApart (names_at names number)

-- where they are, nothing is read like this
abbrev pub ReadsNone : {V : Type 0} → List (List (List ℕ)) → List Node → (V → List Token → Type 0) → Type 0
ReadsNone {V} names graph ReadsLike = AreSound names graph → (value : V) (new : List Token) → ReadsLike value new → ⊥

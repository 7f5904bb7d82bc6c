-- The values of a type, and the tape of a value. The clauses named are those of ISO/IEC 19500-2 on the CDR transfer
-- syntax; a rule marked (own) is this project's.
use Rattle.std.specs.Prelude.{ℕ, zero, suc, ◌-◌, ◌*◌, ◌^◌, ◌<◌, ◌≤◌, nat_lt, ℤ, pos, negsuc, true, false}
use Rattle.std.specs.Prelude.{List, [], ◌∷◌, ◌++◌, length, replicate, Option, slice_index_or, if◌then◌else◌, option_to_list}
use Rattle.std.specs.List.{AllByRecursion}
use Rattle.std.specs.Ordering.{int_eq}
use Rattle.type_graph.specs.declared.width.Width.{Width}
use Rattle.type_graph.specs.declared.width.Width.TheVariants.{One, Four}
use Rattle.type_graph.specs.declared.width.Order.TheVariants.{Big}
use Rattle.type_graph.specs.declared.node.Node.{Node}
use Rattle.type_graph.specs.declared.node.Node.TheVariants.{Integer, Octet, Char, Boolean, Enum, Text, Seq, Array, Struct, Union, Frame}
use Rattle.type_graph.specs.Words.{octets_in, words_of, word}

-- a value without its type
mutual
  pub data Tree : Type 0 where
    -- an integer, octet, character, boolean or enumerator
    Number : ℤ → Tree
    -- a string
    Bytes : List ℕ → Tree
    -- the elements of a sequence or an array, the members of a structure
    Items : Trees → Tree
    -- a union: the discriminator, and the member, none or one
    Choice : ℤ → Trees → Tree

  pub data Trees : Type 0 where
    NoTree : Trees
    AndTree : Tree → Trees → Trees

abbrev pub count : Trees → ℕ
count NoTree = 0
count (AndTree value more) = suc (count more)

-- the node of a number
abbrev pub node_at : List Node → ℕ → Node
node_at graph number = slice_index_or graph number Octet

-- an unsigned number below a limit
abbrev pub IsBelow : ℕ → ℤ → Type 0
IsBelow limit (pos n) = n < limit
IsBelow limit (negsuc n) = ⊥

-- a number that k octets say in two's complement
abbrev pub IsSignedIn : ℕ → ℤ → Type 0
IsSignedIn k (pos n) = n < 2 ^ (8 * k - 1)
IsSignedIn k (negsuc n) = n < 2 ^ (8 * k - 1)

abbrev pub IsSigned : Width → ℤ → Type 0
IsSigned w n = IsSignedIn (octets_in w) n

-- the number for which a pattern of the width stands in two's complement
abbrev pub signed_of : Width → ℕ → ℤ
signed_of w n = if nat_lt n (2 ^ (8 * octets_in w - 1)) then pos n else negsuc (words_of w - 1 - n)

-- The numbers that are values of a node, which is an integer, octet, character, boolean or enumeration (primitive
-- types, enumerated types). A boolean is 0 or 1 and an enumerator one of those declared; others are refused (own).
abbrev pub IsNumber : Node → ℤ → Type 0
IsNumber (Integer w true) n = IsSigned w n
IsNumber (Integer w false) n = IsBelow (words_of w) n
IsNumber Octet n = IsBelow 256 n
IsNumber Char n = IsBelow 256 n
IsNumber Boolean n = IsBelow 2 n
IsNumber (Enum limit) n = IsBelow limit n
IsNumber node n = ⊥

-- the kinds that have such values
abbrev pub IsNumeric : Node → Type 0
IsNumeric (Integer w signed) = Unit {0}
IsNumeric Octet = Unit {0}
IsNumeric Char = Unit {0}
IsNumeric Boolean = Unit {0}
IsNumeric (Enum limit) = Unit {0}
IsNumeric node = ⊥

-- the size of such a number; an enumerator is an unsigned long (enumerated types)
abbrev pub number_width : Node → Width
number_width (Integer w signed) = w
number_width (Enum limit) = Four
number_width node = One

-- at most the bound; a bound of 0 is none
abbrev pub InBound : ℕ → ℕ → Type 0
InBound zero n = Unit {0}
InBound (suc b) n = n ≤ suc b

-- The octets of a string (strings): within the bound, none zero, and with the terminating zero of a length that fits
-- its word.
pub record IsText (bound : ℕ) (text : List ℕ) : Type 0 where
  pub in_bound : InBound bound (length text)
  pub short : suc (length text) < 2 ^ 32
  pub octets : AllByRecursion (λ octet. (0 < octet) × (octet < 256)) text

-- how many elements a sequence may have (sequences): as many as its bound allows and its word can say
pub record IsCount (bound n : ℕ) : Type 0 where
  pub in_bound : InBound bound n
  pub short : n < 2 ^ 32

-- what a label chooses (unions): what stands beside it, else the default, else nothing
abbrev pub arm_of : List (ℤ × ℕ) → Option ℕ → ℤ → List ℕ
arm_of [] default label = option_to_list default
arm_of (arm ∷ more) default label = if int_eq arm.0 label then arm.1 ∷ [] else arm_of more default label

-- The value is one of the node, with at most so many sequences one inside another; empty ones are counted (own).
abbrev mutual
  pub Fits : List Node → Node → Tree → ℕ → Type 0
  Fits graph node (Number n) depth = IsNumber node n
  Fits graph (Text bound) (Bytes text) depth = IsText bound text
  Fits graph (Seq elem bound) (Items values) depth =
      (1 ≤ depth) × IsCount bound (count values) × FitAll graph (replicate (count values) elem) values (depth - 1)
  Fits graph (Array elem n) (Items values) depth = FitAll graph (replicate n elem) values depth
  Fits graph (Struct members) (Items values) depth = FitAll graph members values depth
  Fits graph (Frame members) (Items values) depth = FitAll graph members values depth
  Fits graph (Union switch arms default) (Choice label values) depth =
      IsNumber (node_at graph switch) label × FitAll graph (arm_of arms default label) values depth
  Fits graph node value depth = ⊥

  -- a value for each of the nodes
  pub FitAll : List Node → List ℕ → Trees → ℕ → Type 0
  FitAll graph [] NoTree depth = Unit {0}
  FitAll graph (number ∷ numbers) (AndTree value values) depth =
      Fits graph (node_at graph number) value depth × FitAll graph numbers values depth
  FitAll graph numbers values depth = ⊥

-- The tape of a value: its numbers in big order without gaps, counts and lengths as 4 octets; that of a string leaves
-- out the terminating zero.
abbrev mutual
  pub tape_of : List Node → Node → Tree → List ℕ
  tape_of graph node (Number n) = word Big (number_width node) n
  tape_of graph node (Bytes text) = word Big Four (pos (length text)) ++ text
  tape_of graph (Seq elem bound) (Items values) =
      word Big Four (pos (count values)) ++ tapes_of graph (replicate (count values) elem) values
  tape_of graph (Array elem n) (Items values) = tapes_of graph (replicate n elem) values
  tape_of graph (Struct members) (Items values) = tapes_of graph members values
  tape_of graph (Frame members) (Items values) = tapes_of graph members values
  tape_of graph (Union switch arms default) (Choice label values) =
      word Big (number_width (node_at graph switch)) label ++ tapes_of graph (arm_of arms default label) values
  tape_of graph node value = []

  -- one tape behind the other
  pub tapes_of : List Node → List ℕ → Trees → List ℕ
  tapes_of graph (number ∷ numbers) (AndTree value values) =
      tape_of graph (node_at graph number) value ++ tapes_of graph numbers values
  tapes_of graph numbers values = []

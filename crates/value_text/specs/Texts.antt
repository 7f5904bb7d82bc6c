-- The text of a value, a function of it. The labels of a node are the names of its parts, none where they aren't known;
-- `names` has those of all nodes.
use Rattle.std.specs.Prelude.{ℕ, zero, ℤ, pos, negsuc, Bool, true, false, if◌then◌else◌}
use Rattle.std.specs.Prelude.{List, [], ◌∷◌, replicate, zip, length, Option, Some, None, slice_get}
use Rattle.json.specs.Token.{Token, string, boolean}
use Rattle.hex.specs.Hex.{encode_lower}
use Rattle.type_model.specs.PartNamesNames.{names_at}
use Rattle.type_graph.specs.declared.node.Node.{Node}
use Rattle.type_graph.specs.declared.node.Node.TheVariants.{Octet, Char, Boolean, Enum, Seq, Array, Struct, Union, Frame}
use Rattle.type_graph.specs.Value.{Tree, Number, Bytes, Items, Choice, Trees, AndTree, count, node_at, arm_of}
use Rattle.value_text.specs.Shape.{is_reference}
use Rattle.value_text.specs.Printed.{reference_text}
use Rattle.value_text.specs.Pieces.{characters, digits, octet_of, octets_of, listed, object_of, are_named}

-- every number but 0 is true
abbrev pub truth_of : ℤ → Bool
truth_of (pos zero) = false
truth_of n = true

-- the name at the number's place
abbrev pub label_of : List (List ℕ) → ℤ → Option (List ℕ)
label_of labels (pos n) = slice_get labels n
label_of labels (negsuc n) = None

-- by its name, or by its number where it has none
abbrev pub enumerator_of : Option (List ℕ) → ℤ → Token
enumerator_of (Some label) n = string label
enumerator_of None n = digits n

-- an integer, octet, character, boolean or enumerator
abbrev pub number_text : List (List ℕ) → Node → ℤ → Token
number_text labels Boolean n = boolean (truth_of n)
number_text labels Char n = string (characters (octet_of n ∷ []))
number_text labels (Enum limit) n = enumerator_of (label_of labels n) n
number_text labels node n = digits n

-- Elements of this node with these texts: octets are the digits of their hexadecimal numbers and characters a string.
abbrev pub elements_text : Node → List ℕ → List (List Token) → List Token
elements_text Octet octets texts = string (encode_lower octets) ∷ []
elements_text Char octets texts = string (characters octets) ∷ []
elements_text node octets texts = listed texts

-- so many members with these texts: an object where they have names, else a list
abbrev pub members_text : List (List ℕ) → ℕ → List (List Token) → List Token
members_text labels n texts = if are_named labels n then object_of (zip labels texts) else listed texts

-- members of the shape of an object reference, and without names
abbrev pub refers : List Node → List (List ℕ) → List ℕ → Bool
refers graph [] members = is_reference graph members
refers graph labels members = false

-- the text of an object reference stands for its members' text
abbrev pub structure_text : Bool → Trees → List Token → List Token
structure_text refers values text = if refers then string (reference_text values) ∷ [] else text

abbrev mutual
  pub text_of : List (List (List ℕ)) → List Node → List (List ℕ) → Node → Tree → List Token
  text_of names graph labels node (Number n) = number_text labels node n ∷ []
  text_of names graph labels node (Bytes text) = string (characters text) ∷ []
  text_of names graph labels (Seq elem bound) (Items values) =
      elements_text (node_at graph elem) (octets_of values)
      (texts_of names graph (replicate (count values) elem) values)
  text_of names graph labels (Array elem n) (Items values) =
      elements_text (node_at graph elem) (octets_of values)
      (texts_of names graph (replicate (count values) elem) values)
  text_of names graph labels (Struct members) (Items values) =
      structure_text (refers graph labels members) values
      (members_text labels (length members) (texts_of names graph members values))
  text_of names graph labels (Frame members) (Items values) =
      members_text labels (length members) (texts_of names graph members values)
  text_of names graph labels (Union switch arms default) (Choice label values) =
      listed ((number_text (names_at names switch) (node_at graph switch) label ∷ [])
      ∷ texts_of names graph (arm_of arms default label) values)
  text_of names graph labels node value = []

  -- the texts of parts, of these nodes
  pub texts_of : List (List (List ℕ)) → List Node → List ℕ → Trees → List (List Token)
  texts_of names graph (number ∷ numbers) (AndTree value values) =
      text_of names graph (names_at names number) (node_at graph number) value ∷ texts_of names graph numbers values
  texts_of names graph numbers values = []

-- that of a value of the node of a number
abbrev pub text_at : List (List (List ℕ)) → List Node → ℕ → Tree → List Token
text_at names graph number value = text_of names graph (names_at names number) (node_at graph number) value

-- What a text says: a relation, since a value has more texts than the one that is printed. Each rule has the texts that
-- it refuses beside it.
use Rattle.std.specs.Prelude.{◌≡◌, ◌⊎◌, ℕ, ℤ, List, [], ◌∷◌, length, replicate, zip, Some, IsPermutation}
use Rattle.std.specs.Prelude.{Ok, true}
use Rattle.json.specs.Token.{Token, string, boolean}
use Rattle.hex.specs.Hex.{decode_of}
use Rattle.type_model.specs.PartNamesNames.{names_at}
use Rattle.type_graph.specs.declared.node.Node.{Node}
use Rattle.type_graph.specs.declared.node.Node.TheVariants.{Octet, Char, Boolean, Enum, Text, Seq, Array, Struct, Union, Frame}
use Rattle.type_graph.specs.Value.{Tree, Number, Bytes, Items, Choice, Trees, NoTree, AndTree, count, node_at, arm_of, Fits}
use Rattle.value_text.specs.Pieces.{characters, digits, octet_of, octets_of, listed, object_of}
use Rattle.value_text.specs.Stringified.{Stringifies}
use Rattle.value_text.specs.Texts.{truth_of, label_of, refers}

-- An integer and an octet by its digits (not `-0`, `1.0`, `1e3` or "1"), a boolean by its word (not 0), a character
-- by a string of it alone (not "ab"), an enumerator by its name or its number (not another name).
abbrev pub SaysNumber : List (List ℕ) → Node → ℤ → Token → Type 0
SaysNumber labels Boolean n token = token ≡ boolean (truth_of n)
SaysNumber labels Char n token = token ≡ string (characters (octet_of n ∷ []))
SaysNumber labels (Enum limit) n token =
    (token ≡ digits n) ⊎ ((label : List ℕ) × (label_of labels n ≡ Some label) × (token ≡ string label))
SaysNumber labels node n token = token ≡ digits n

-- Octets together by a string of hexadecimal digits in letters of either case (not "abc"), characters by a string.
abbrev pub SaysTogether : Node → List ℕ → List Token → Type 0
SaysTogether Octet octets tokens = (digits : List ℕ) × (tokens ≡ string digits ∷ []) × (decode_of digits ≡ Ok octets)
SaysTogether Char octets tokens = tokens ≡ string (characters octets) ∷ []
SaysTogether node octets tokens = ⊥

-- An object reference by a string that spells it (not one that is cut, not that of a structure with names).
abbrev pub SaysReference : List Node → List (List ℕ) → List ℕ → Trees → List Token → Type 0
SaysReference graph labels members values tokens =
    (refers graph labels members ≡ true) × (text : List ℕ) × Stringifies text (Items values)
    × (tokens ≡ string text ∷ [])

-- a list of these texts (no other count, nothing behind)
abbrev pub IsList : List (List Token) → List Token → Type 0
IsList texts tokens = tokens ≡ listed texts

-- an object with a member of each name and its text, in any order (none missing, none twice, none of another name)
pub record IsObject (labels : List (List ℕ)) (texts : List (List Token)) (tokens : List Token) : Type 0 where
  pub named : length labels ≡ length texts
  pub pairs : List (List ℕ × List Token)
  pub in_some_order : IsPermutation (zip labels texts) pairs
  pub is_object : tokens ≡ object_of pairs

abbrev mutual
  -- A string by its characters, of which each is an octet; elements together or as a list; members as an object or a
  -- list, those of an object reference by its string too; a union as the list of its label and its member, if it has
  -- one.
  pub Says : List (List (List ℕ)) → List Node → List (List ℕ) → Node → Tree → List Token → Type 0
  Says names graph labels node (Number n) tokens = (token : Token) × SaysNumber labels node n token
      × (tokens ≡ token ∷ [])
  Says names graph labels (Text bound) (Bytes text) tokens = tokens ≡ string (characters text) ∷ []
  Says names graph labels (Seq elem bound) (Items values) tokens =
      SaysTogether (node_at graph elem) (octets_of values) tokens
      ⊎ ((texts : List (List Token)) × SayAll names graph (replicate (count values) elem) values texts
      × IsList texts tokens)
  Says names graph labels (Array elem n) (Items values) tokens =
      SaysTogether (node_at graph elem) (octets_of values) tokens
      ⊎ ((texts : List (List Token)) × SayAll names graph (replicate n elem) values texts × IsList texts tokens)
  Says names graph labels (Struct members) (Items values) tokens =
      SaysReference graph labels members values tokens
      ⊎ ((texts : List (List Token)) × SayAll names graph members values texts × (IsObject labels texts tokens
      ⊎ IsList texts tokens))
  Says names graph labels (Frame members) (Items values) tokens =
      (texts : List (List Token)) × SayAll names graph members values texts × (IsObject labels texts tokens
      ⊎ IsList texts tokens)
  Says names graph labels (Union switch arms default) (Choice label values) tokens =
      (token : Token) × SaysNumber (names_at names switch) (node_at graph switch) label token
      × (texts : List (List Token)) × SayAll names graph (arm_of arms default label) values texts
      × IsList ((token ∷ []) ∷ texts) tokens
  Says names graph labels node value tokens = ⊥

  -- each of the texts says its part, of these nodes
  pub SayAll : List (List (List ℕ)) → List Node → List ℕ → Trees → List (List Token) → Type 0
  SayAll names graph [] NoTree [] = Unit {0}
  SayAll names graph (number ∷ numbers) (AndTree value values) (text ∷ texts) =
      Says names graph (names_at names number) (node_at graph number) value text
      × SayAll names graph numbers values texts
  SayAll names graph numbers values texts = ⊥

-- The text stands for a value of the node of a number: the value is one of it, and the text says it.
pub record StandsFor (names : List (List (List ℕ))) (graph : List Node) (number : ℕ) (value : Tree)
    (tokens : List Token) : Type 0
  where
    pub fits : Fits graph (node_at graph number) value 64
    pub says : Says names graph (names_at names number) (node_at graph number) value tokens

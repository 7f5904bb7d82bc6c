-- What is read off tokens.
use Rattle.std.specs.Prelude.{true, ◌≡◌, ◌≢◌, ◌⊎◌, ◌≤◌, ℕ, List, [], ◌∷◌, ◌++◌, map, zip, replicate, Option, IsPermutation, All}
use Rattle.json.specs.Token.{Token, string, end_array, end_object, bad}
use Rattle.type_model.specs.PartNamesNames.{names_at}
use Rattle.type_graph.specs.declared.node.Node.{Node}
use Rattle.type_graph.specs.Value.{Tree, Trees, Number, Bytes, Items, IsText, IsBelow, count, node_at, Fits, FitAll}
use Rattle.idl_value.specs.declared.value.Value.{Value}
use Rattle.idl_value.specs.View.{tree_of}
use Rattle.value_text.specs.Stringified.{Stringifies}
use Rattle.value_text.specs.Texts.{refers}
use Rattle.value_text.specs.Pieces.{characters, octet_of_tree, octets_of, joined, paired}
use Rattle.value_text.specs.inner.Slots.{AreSlots, given}
use Rattle.value_text.specs.Says.{Says, SayAll, SaysTogether, IsObject, IsList}

-- the next token; behind the last there is a bad one
abbrev pub Next : List Token → Token → List Token → Type 0
Next old token new = (old ≡ token ∷ new) ⊎ ((old ≡ []) × (token ≡ bad))

abbrev pub IsOctet : Tree → Type 0
IsOctet (Number n) = IsBelow 256 n
IsOctet value = ⊥

-- the values are these octets
pub record IsOctets (octets : List ℕ) (values : List Value) : Type 0 where
  pub same : map (λ value. octet_of_tree (tree_of value)) values ≡ octets
  pub each : All (λ value. IsOctet (tree_of value)) values

-- the value is a string, and the token its text
pub record IsString (bound : ℕ) (value : Tree) (token : Token) : Type 0 where
  pub text : List ℕ
  pub is_text : IsText bound text
  pub value_is : value ≡ Bytes text
  pub says : token ≡ string (characters text)

-- The value of the node begins with the token, and ends before the tokens that are left.
pub record ReadsAs (names : List (List (List ℕ))) (graph : List Node) (labels : List (List ℕ)) (node : Node) (depth : ℕ)
    (token : Token) (old : List Token) (value : Tree) (new : List Token) : Type 0 where
  pub good : token ≢ bad
  pub more : List Token
  pub cut : old ≡ more ++ new
  pub fits : Fits graph node value depth
  pub says : Says names graph labels node value (token ∷ more)

-- that of the node of a number
abbrev pub Reads : List (List (List ℕ)) → List Node → ℕ → ℕ → Token → List Token → Tree → List Token → Type 0
Reads names graph number = ReadsAs names graph (names_at names number) (node_at graph number)

-- values of these nodes, one behind the other
pub record ReadsParts (names : List (List (List ℕ))) (graph : List Node) (numbers : List ℕ) (depth : ℕ)
    (old : List Token) (values : Trees) (new : List Token) : Type 0 where
  pub texts : List (List Token)
  pub cut : old ≡ joined texts ++ new
  pub fit : FitAll graph numbers values depth
  pub say : SayAll names graph numbers values texts

-- the same, and the end of their list
abbrev pub ReadsList : List (List (List ℕ)) → List Node → List ℕ → ℕ → List Token → Trees → List Token → Type 0
ReadsList names graph numbers depth old values new = ReadsParts names graph numbers depth old values (end_array ∷ new)

-- a text says the value of a member
abbrev pub SaysMember : List (List (List ℕ)) → List Node → ℕ → ℕ → Value → List Token → Type 0
SaysMember names graph depth number value text =
    Fits graph (node_at graph number) (tree_of value) depth
    × Says names graph (names_at names number) (node_at graph number) (tree_of value) text

-- members with names, in some order, those that have a value
pub record ReadsSlots (names : List (List (List ℕ))) (graph : List Node) (labels : List (List ℕ)) (numbers : List ℕ)
    (depth : ℕ)
    (old : List Token) (slots : List (Option Value)) (new : List Token) : Type 0 where
  pub texts : List (Option (List Token))
  pub are_slots : AreSlots (SaysMember names graph depth) numbers slots texts
  pub pairs : List (List ℕ × List Token)
  pub in_some_order : IsPermutation (given labels texts) pairs
  pub cut : old ≡ paired pairs ++ new

-- values of these nodes as members with names, in some order, and the end of their object
pub record ReadsObject (names : List (List (List ℕ))) (graph : List Node) (labels : List (List ℕ)) (numbers : List ℕ)
    (depth : ℕ)
    (old : List Token) (values : Trees) (new : List Token) : Type 0 where
  pub texts : List (List Token)
  pub pairs : List (List ℕ × List Token)
  pub in_some_order : IsPermutation (zip labels texts) pairs
  pub cut : old ≡ paired pairs ++ end_object ∷ new
  pub fit : FitAll graph numbers values depth
  pub say : SayAll names graph numbers values texts

-- members as an object or as a list, which begins with the token
pub record ReadsMembers (names : List (List (List ℕ))) (graph : List Node) (labels : List (List ℕ)) (numbers : List ℕ)
    (depth : ℕ)
    (token : Token) (old : List Token) (values : Trees) (new : List Token) : Type 0 where
  pub good : token ≢ bad
  pub more : List Token
  pub cut : old ≡ more ++ new
  pub fit : FitAll graph numbers values depth
  pub texts : List (List Token)
  pub say : SayAll names graph numbers values texts
  pub whole : IsObject labels texts (token ∷ more) ⊎ IsList texts (token ∷ more)

-- an object reference by its string, and nothing more
pub record ReadsReference (graph : List Node) (labels : List (List ℕ)) (numbers : List ℕ) (depth : ℕ)
    (token : Token) (old : List Token) (values : Trees) (new : List Token) : Type 0 where
  pub is_one : refers graph labels numbers ≡ true
  pub text : List ℕ
  pub token_is : token ≡ string text
  pub spelled : Stringifies text (Items values)
  pub fit : FitAll graph numbers values depth
  pub same : old ≡ new

-- a structure: its members, or the string of an object reference
abbrev pub ReadsStructure : List (List (List ℕ)) → List Node → List (List ℕ) → List ℕ → ℕ
    → Token → List Token → Trees → List Token → Type 0
ReadsStructure names graph labels numbers depth token old values new =
    ReadsReference graph labels numbers depth token old values new
    ⊎ ReadsMembers names graph labels numbers depth token old values new

-- elements of this node, together or as a list, which begin with the token
pub record ReadsItems (names : List (List (List ℕ))) (graph : List Node) (elem depth : ℕ)
    (token : Token) (old : List Token) (values : Trees) (new : List Token) : Type 0 where
  pub good : token ≢ bad
  pub more : List Token
  pub cut : old ≡ more ++ new
  pub fit : FitAll graph (replicate (count values) elem) values depth
  pub whole : SaysTogether (node_at graph elem) (octets_of values) (token ∷ more)
      ⊎ ((texts : List (List Token)) × SayAll names graph (replicate (count values) elem) values texts
      × IsList texts (token ∷ more))

-- the same, at least and at most so many
abbrev pub ReadsElements : List (List (List ℕ)) → List Node → ℕ → ℕ → ℕ → ℕ → Token → List Token → Trees → List Token
    → Type 0
ReadsElements names graph elem least most depth token old values new =
    (least ≤ count values) × (count values ≤ most) × ReadsItems names graph elem depth token old values new

-- elements as a list, at most so many, and the end of their list
abbrev pub ReadsCopies : List (List (List ℕ)) → List Node → ℕ → ℕ → ℕ → List Token → Trees → List Token → Type 0
ReadsCopies names graph elem most depth old values new =
    (count values ≤ most) × ReadsList names graph (replicate (count values) elem) depth old values new

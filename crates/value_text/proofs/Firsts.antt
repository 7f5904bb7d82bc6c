-- With which tokens the texts of values begin.
use Rattle.std.proofs.Common.{◌≡◌, ◌⊎◌, inl, inr, ℕ, ℤ, List, [], ◌∷◌, sym, subst}
use Rattle.json.specs.Token.{Token, begin_object, end_object, begin_array, end_array, key, string, bad}
use Rattle.type_graph.specs.declared.node.Node.{Node}
use Rattle.type_graph.specs.declared.node.Node.TheVariants.{Octet, Char, Boolean, Enum, Text, Seq, Array, Struct, Union, Frame}
use Rattle.type_graph.specs.Value.{Tree, Number, Bytes, Items, Choice, node_at}
use Rattle.type_graph.specs.Value.{Trees}
use Rattle.value_text.specs.Says.{SaysNumber, SaysTogether, SaysReference, IsObject, IsList, Says}

-- a text may begin with it
abbrev pub IsFirst : Token → Type 0
IsFirst end_object = ⊥
IsFirst end_array = ⊥
IsFirst (key name) = ⊥
IsFirst bad = ⊥
IsFirst token = Unit {0}

-- the first token
pub record Begun (tokens : List Token) : Type 0 where
  pub token : Token
  pub more : List Token
  pub is : tokens ≡ token ∷ more
  pub first : IsFirst token

pub number_first : (labels : List (List ℕ)) (node : Node) (n : ℤ) (token : Token) → SaysNumber labels node n token
    → IsFirst token
number_first labels Boolean n token h = subst IsFirst (sym h) tt
number_first labels Char n token h = subst IsFirst (sym h) tt
number_first labels (Enum limit) n token (inl h) = subst IsFirst (sym h) tt
number_first labels (Enum limit) n token (inr h) = subst IsFirst (sym h.2) tt
number_first labels node n token h = subst IsFirst (sym h) tt

together_begun : (node : Node) (octets : List ℕ) (tokens : List Token) → SaysTogether node octets tokens → Begun tokens
together_begun Octet octets tokens h = record { token = string h.0; more = []; is = h.1; first = tt }
together_begun Char octets tokens h = record { token = _; more = []; is = h; first = tt }
together_begun node octets tokens h = absurd h

list_begun : (texts : List (List Token)) (tokens : List Token) → IsList texts tokens → Begun tokens
list_begun texts tokens h = record { token = begin_array; more = _; is = h; first = tt }

object_begun : (labels : List (List ℕ)) (texts : List (List Token)) (tokens : List Token) → IsObject labels texts tokens
    → Begun tokens
object_begun labels texts tokens h = record { token = begin_object; more = _; is = h.is_object; first = tt }

elements_begun : (node : Node) (octets : List ℕ) (tokens : List Token) {S : List (List Token) → Type 0}
    → SaysTogether node octets tokens ⊎ ((texts : List (List Token)) × S texts × IsList texts tokens) → Begun tokens
elements_begun node octets tokens (inl h) = together_begun node octets tokens h
elements_begun node octets tokens (inr h) = list_begun h.0 tokens h.2

members_begun : (labels : List (List ℕ)) (texts : List (List Token)) (tokens : List Token)
    → IsObject labels texts tokens ⊎ IsList texts tokens → Begun tokens
members_begun labels texts tokens (inl h) = object_begun labels texts tokens h
members_begun labels texts tokens (inr h) = list_begun texts tokens h

structure_begun : (graph : List Node) (labels : List (List ℕ)) (members : List ℕ) (values : Trees) (tokens : List Token)
    {S : List (List Token) → Type 0}
    → SaysReference graph labels members values tokens
    ⊎ ((texts : List (List Token)) × S texts × (IsObject labels texts tokens ⊎ IsList texts tokens))
    → Begun tokens
structure_begun graph labels members values tokens (inl h) =
    record { token = string h.1; more = []; is = h.3; first = tt }
structure_begun graph labels members values tokens (inr h) = members_begun labels h.0 tokens h.2

module _ (names : List (List (List ℕ))) (graph : List Node) where
  pub says_begun : (labels : List (List ℕ)) (node : Node) (value : Tree) (tokens : List Token)
      → Says names graph labels node value tokens → Begun tokens
  says_begun labels node (Number n) tokens h =
      record { token = h.0; more = []; is = h.2; first = number_first labels node n h.0 h.1 }
  says_begun labels (Text bound) (Bytes text) tokens h = record { token = _; more = []; is = h; first = tt }
  says_begun labels (Seq elem bound) (Items values) tokens h = elements_begun (node_at graph elem) _ tokens h
  says_begun labels (Array elem n) (Items values) tokens h = elements_begun (node_at graph elem) _ tokens h
  says_begun labels (Struct members) (Items values) tokens h = structure_begun graph labels members values tokens h
  says_begun labels (Frame members) (Items values) tokens h = members_begun labels h.0 tokens h.2
  says_begun labels (Union switch arms default) (Choice label values) tokens h =
      list_begun ((h.0 ∷ []) ∷ h.2) tokens h.4
  says_begun labels node value tokens h = absurd h

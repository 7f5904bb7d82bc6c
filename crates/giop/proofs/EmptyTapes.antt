-- A value whose tape is empty has no octets.
use Rattle.std.proofs.Common.{◌≡◌, ℕ, ◌+◌, ◌<◌, ℤ, pos, List, [], ◌∷◌, ◌++◌, length, length-append, replicate, refl, sym, ap, ◌∙◌, arith}
use Rattle.type_graph.specs.declared.width.Width.{Width}
use Rattle.type_graph.specs.declared.width.Width.TheVariants.{One, Two, Four, Eight}
use Rattle.type_graph.specs.declared.width.Order.TheVariants.{Big}
use Rattle.type_graph.specs.declared.node.Node.{Node}
use Rattle.type_graph.specs.declared.node.Node.TheVariants.{Integer, Octet, Char, Boolean, Enum, Text, Seq, Array, Struct, Union, Frame}
use Rattle.type_graph.specs.Words.{Format, word, octets_in}
use Rattle.type_graph.specs.Value.{Tree, Number, Bytes, Items, Choice, Trees, NoTree, AndTree, count, node_at, number_width, arm_of, tape_of, tapes_of}
use Rattle.type_graph.specs.Encoding.{Encodes, EncodeAll, Means}
use Rattle.type_graph.proofs.WordLaws.{length-word}

-- a number has an octet at least
wide : (w : Width) → 0 < octets_in w
wide One = omega arith
wide Two = omega arith
wide Four = omega arith
wide Eight = omega arith

no_word : (w : Width) (n : ℤ) (more : List ℕ) → word Big w n ++ more ≡ [] → ⊥
no_word w n more e =
    absurd (omega (arith, ap length e, length-append (word Big w n) more, length-word Big w n, wide w))

no_front : (xs ys : List ℕ) → xs ++ ys ≡ [] → (xs ≡ []) × (ys ≡ [])
no_front [] ys e = (refl, e)
no_front (x ∷ xs) ys e = absurd (cc)

mutual
  none_encoded : (format : Format) (graph : List Node) (node : Node) (value : Tree) (p : ℕ) (octets : List ℕ)
      → tape_of graph node value ≡ [] → Encodes format graph node value p octets → octets ≡ []
  none_encoded format graph node (Number n) p octets e is =
      absurd (omega (arith, ap length e, length-word Big (number_width node) n, wide (number_width node)))
  none_encoded format graph node (Bytes text) p octets e is = absurd (no_word Four (pos (length text)) text e)
  none_encoded format graph (Seq elem bound) (Items values) p octets e is =
      absurd (no_word Four (pos (count values)) (tapes_of graph (replicate (count values) elem) values) e)
  none_encoded format graph (Array elem n) (Items values) p octets e is =
      none_of_all format graph (replicate n elem) values p octets e is
  none_encoded format graph (Struct members) (Items values) p octets e is =
      none_of_all format graph members values p octets e is
  none_encoded format graph (Frame members) (Items values) p octets e is =
      none_of_all format graph members values p octets e is
  none_encoded format graph (Union switch arms default) (Choice label values) p octets e is =
      absurd
      (no_word (number_width (node_at graph switch)) label (tapes_of graph (arm_of arms default label) values) e)
  none_encoded format graph (Integer w signed) (Items values) p octets e is = absurd is
  none_encoded format graph Octet (Items values) p octets e is = absurd is
  none_encoded format graph Char (Items values) p octets e is = absurd is
  none_encoded format graph Boolean (Items values) p octets e is = absurd is
  none_encoded format graph (Enum limit) (Items values) p octets e is = absurd is
  none_encoded format graph (Text bound) (Items values) p octets e is = absurd is
  none_encoded format graph (Union switch arms default) (Items values) p octets e is = absurd is
  none_encoded format graph (Integer w signed) (Choice label values) p octets e is = absurd is
  none_encoded format graph Octet (Choice label values) p octets e is = absurd is
  none_encoded format graph Char (Choice label values) p octets e is = absurd is
  none_encoded format graph Boolean (Choice label values) p octets e is = absurd is
  none_encoded format graph (Enum limit) (Choice label values) p octets e is = absurd is
  none_encoded format graph (Text bound) (Choice label values) p octets e is = absurd is
  none_encoded format graph (Seq elem bound) (Choice label values) p octets e is = absurd is
  none_encoded format graph (Array elem n) (Choice label values) p octets e is = absurd is
  none_encoded format graph (Struct members) (Choice label values) p octets e is = absurd is
  none_encoded format graph (Frame members) (Choice label values) p octets e is = absurd is

  none_of_all : (format : Format) (graph : List Node) (numbers : List ℕ) (values : Trees) (p : ℕ) (octets : List ℕ)
      → tapes_of graph numbers values ≡ [] → EncodeAll format graph numbers values p octets → octets ≡ []
  none_of_all format graph [] NoTree p octets e is = is
  none_of_all format graph (number ∷ numbers) (AndTree value values) p octets e is =
      let both = no_front (tape_of graph (node_at graph number) value) (tapes_of graph numbers values) e in
      let first = none_encoded format graph (node_at graph number) value p is.octets1 both.0 is.first in
      let second = none_of_all format graph numbers values (p + length is.octets1) is.octets2 both.1 is.second in
      is.octets_is ∙ ap (λ l. l ++ is.octets2) first ∙ second
  none_of_all format graph (number ∷ numbers) NoTree p octets e is = absurd is
  none_of_all format graph [] (AndTree value values) p octets e is = absurd is

pub none_meant : (graph : List Node) (format : Format) (depth node p : ℕ) (octets : List ℕ)
    → Means graph format depth node p [] octets → octets ≡ []
none_meant graph format depth node p octets is =
    none_encoded format graph (node_at graph node) is.value p octets (sym is.tape_is) is.encodes

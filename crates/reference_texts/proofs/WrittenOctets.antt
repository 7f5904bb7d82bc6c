-- What encodes a value are octets.
use Rattle.std.proofs.Common.{◌≡◌, ℕ, suc, ◌+◌, ◌<◌, ℤ, pos, List, [], ◌∷◌, ◌++◌, length, replicate, sym, subst, arith}
use Rattle.std.specs.List.{AllByRecursion}
use Rattle.type_graph.specs.declared.width.Width.{Width}
use Rattle.type_graph.specs.declared.width.Width.TheVariants.{Four}
use Rattle.type_graph.specs.declared.node.Node.{Node}
use Rattle.type_graph.specs.declared.node.Node.TheVariants.{Text, Seq, Array, Struct, Union, Frame}
use Rattle.type_graph.specs.Words.{AllBelow, Format}
use Rattle.type_graph.specs.Value.{Tree, Number, Bytes, Items, Choice, Trees, NoTree, AndTree, count, node_at, number_width, arm_of, Fits, FitAll}
use Rattle.type_graph.specs.Encoding.{Encoding, Joined, Aligned, Encodes, EncodeAll}
use Rattle.type_graph.proofs.WordLaws.{all_append, all_weaken, padding_octets, word_below}

-- whatever stands there are octets
abbrev AreOctets : Encoding → Type 0
AreOctets A = (p : ℕ) (x : List ℕ) → A p x → AllBelow 256 x

joined_octets : (A B : Encoding) → AreOctets A → AreOctets B → AreOctets (Joined A B)
joined_octets A B a b p x r =
    subst (AllBelow 256) (sym r.octets_is)
    (all_append (λ n. n < 256) r.octets1 r.octets2 (a p r.octets1 r.first)
    (b (p + length r.octets1) r.octets2 r.second))

aligned_octets : (format : Format) (w : Width) (n : ℤ) → AreOctets (Aligned format w n)
aligned_octets format w n p x r =
    subst (AllBelow 256) (sym r.octets_is)
    (all_append (λ k. k < 256) r.octets1 r.octets2 (padding_octets format.padding r.octets1 r.first.filled)
    (subst (AllBelow 256) (sym r.second) (word_below format.order w n)))

text_octets : (text : List ℕ) → AllByRecursion (λ octet. (0 < octet) × (octet < 256)) text
    → AllBelow 256 (text ++ 0 ∷ [])
text_octets text all =
    all_append (λ n. n < 256) text (0 ∷ [])
    (all_weaken (λ octet. (0 < octet) × (octet < 256)) (λ n. n < 256) text (λ n h. h.1) all)
    (omega arith, tt)

mutual
  pub encodes_octets : (format : Format) (graph : List Node) (node : Node) (value : Tree) (d : ℕ)
      → Fits graph node value d
      → AreOctets (Encodes format graph node value)
  encodes_octets format graph node (Number n) d f p x r = aligned_octets format (number_width node) n p x r
  encodes_octets format graph (Text bound) (Bytes text) d f p x r =
      joined_octets (Aligned format Four (pos (suc (length text)))) (λ q y. y ≡ text ++ 0 ∷ [])
      (aligned_octets format Four (pos (suc (length text))))
      (λ q y e. subst (AllBelow 256) (sym e) (text_octets text f.octets)) p x r
  encodes_octets format graph (Seq elem bound) (Items values) d f p x r =
      joined_octets (Aligned format Four (pos (count values)))
      (EncodeAll format graph (replicate (count values) elem) values)
      (aligned_octets format Four (pos (count values)))
      (λ q y s. encode_all_octets format graph (replicate (count values) elem) values _ f.2 q y s) p x r
  encodes_octets format graph (Array elem n) (Items values) d f p x r =
      encode_all_octets format graph (replicate n elem) values d f p x r
  encodes_octets format graph (Struct members) (Items values) d f p x r =
      encode_all_octets format graph members values d f p x r
  encodes_octets format graph (Frame members) (Items values) d f p x r =
      encode_all_octets format graph members values d f p x r
  encodes_octets format graph (Union switch arms default) (Choice label values) d f p x r =
      joined_octets (Aligned format (number_width (node_at graph switch)) label)
      (EncodeAll format graph (arm_of arms default label) values)
      (aligned_octets format (number_width (node_at graph switch)) label)
      (λ q y s. encode_all_octets format graph (arm_of arms default label) values d f.1 q y s) p x r
  encodes_octets format graph node value d f p x r = absurd f

  encode_all_octets : (format : Format) (graph : List Node) (numbers : List ℕ) (values : Trees) (d : ℕ)
      → FitAll graph numbers values d → AreOctets (EncodeAll format graph numbers values)
  encode_all_octets format graph [] NoTree d f p x r = subst (AllBelow 256) (sym r) tt
  encode_all_octets format graph (number ∷ numbers) (AndTree value values) d f p x r =
      joined_octets (Encodes format graph (node_at graph number) value) (EncodeAll format graph numbers values)
      (λ q y s. encodes_octets format graph (node_at graph number) value d f.0 q y s)
      (λ q y s. encode_all_octets format graph numbers values d f.1 q y s) p x r
  encode_all_octets format graph numbers values d f p x r = absurd f

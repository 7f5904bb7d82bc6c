-- What a type's values are in octets depends on the position modulo 8 alone.
use Rattle.std.proofs.Common.{◌≡◌, ℕ, suc, ◌+◌, ◌%◌, ℤ, pos, List, [], ◌∷◌, length, replicate, sym, ◌∙◌, arith}
use Rattle.type_graph.specs.declared.width.Width.{Width}
use Rattle.type_graph.specs.declared.width.Width.TheVariants.{Four}
use Rattle.type_graph.specs.declared.node.Node.{Node}
use Rattle.type_graph.specs.declared.node.Node.TheVariants.{Seq, Array, Struct, Union, Frame}
use Rattle.type_graph.specs.Words.{Format}
use Rattle.type_graph.specs.Comparison.{Moves}
use Rattle.type_graph.specs.Value.{Tree, Number, Bytes, Items, Choice, Trees, NoTree, AndTree, count, node_at, number_width, arm_of}
use Rattle.type_graph.specs.Encoding.{Encoding, Joined, Aligned, Encodes, EncodeAll, NodeMeans, Means}
use Rattle.type_graph.proofs.WordLaws.{pad_moved}

-- what encodes at a position encodes at each that differs by a multiple of 8
abbrev Stays : Encoding → Type 0
Stays A = (p q : ℕ) (octets : List ℕ) → q % 8 ≡ p % 8 → A p octets → A q octets

-- part by part
joined_stays : (A B : Encoding) → Stays A → Stays B → Stays (Joined A B)
joined_stays A B a b p q x e r = record {
  octets1 = r.octets1;
  octets2 = r.octets2;
  octets_is = r.octets_is;
  first = a p q r.octets1 e r.first;
  second = b (p + length r.octets1) (q + length r.octets1) r.octets2 (omega arith) r.second;
}

-- a gap depends on the position modulo 8 alone
aligned_stays : (format : Format) (w : Width) (n : ℤ) → Stays (Aligned format w n)
aligned_stays format w n p q x e r = record {
  octets1 = r.octets1;
  octets2 = r.octets2;
  octets_is = r.octets_is;
  first = record { long = r.first.long ∙ sym (pad_moved p q w e); filled = r.first.filled };
  second = r.second;
}

mutual
  -- a value's octets
  encodes_stays : (format : Format) (graph : List Node) (node : Node) (value : Tree)
      → Stays (Encodes format graph node value)
  encodes_stays format graph node (Number n) p q x e r = aligned_stays format (number_width node) n p q x e r
  encodes_stays format graph node (Bytes text) p q x e r =
      joined_stays (Aligned format Four (pos (suc (length text)))) _
      (aligned_stays format Four (pos (suc (length text)))) (λ p q x e r. r) p q x e r
  encodes_stays format graph (Seq elem bound) (Items values) p q x e r =
      joined_stays (Aligned format Four (pos (count values)))
      (EncodeAll format graph (replicate (count values) elem) values)
      (aligned_stays format Four (pos (count values)))
      (λ p q x e r. encode_all_stays format graph (replicate (count values) elem) values p q x e r) p q x e r
  encodes_stays format graph (Array elem n) (Items values) p q x e r =
      encode_all_stays format graph (replicate n elem) values p q x e r
  encodes_stays format graph (Struct members) (Items values) p q x e r =
      encode_all_stays format graph members values p q x e r
  encodes_stays format graph (Frame members) (Items values) p q x e r =
      encode_all_stays format graph members values p q x e r
  encodes_stays format graph (Union switch arms default) (Choice a values) p q x e r =
      joined_stays (Aligned format (number_width (node_at graph switch)) a)
      (EncodeAll format graph (arm_of arms default a) values)
      (aligned_stays format (number_width (node_at graph switch)) a)
      (λ p q x e r. encode_all_stays format graph (arm_of arms default a) values p q x e r) p q x e r
  encodes_stays format graph node value p q x e r = absurd r

  -- the octets of several values
  encode_all_stays : (format : Format) (graph : List Node) (numbers : List ℕ) (values : Trees)
      → Stays (EncodeAll format graph numbers values)
  encode_all_stays format graph [] NoTree p q x e r = r
  encode_all_stays format graph (number ∷ numbers) (AndTree value values) p q x e r =
      joined_stays (Encodes format graph (node_at graph number) value) (EncodeAll format graph numbers values)
      (λ p q x e r. encodes_stays format graph (node_at graph number) value p q x e r)
      (λ p q x e r. encode_all_stays format graph numbers values p q x e r) p q x e r
  encode_all_stays format graph numbers values p q x e r = absurd r

-- the octets of a node's values depend on the position modulo 8 alone
pub node_means_moves : {graph : List Node} {format : Format} {depth : ℕ} {node : Node}
    → Moves (NodeMeans graph format depth node) (NodeMeans graph format depth node)
node_means_moves {graph} {format} {depth} {node} = record {
  at = λ p q t x e r. record {
    value = r.value;
    fits = r.fits;
    tape_is = r.tape_is;
    encodes = encodes_stays format graph node r.value p q x e r.encodes;
  };
}

-- and so do those of the node of a number
pub means_moves : (graph : List Node) (format : Format) (depth number : ℕ)
    → Moves (Means graph format depth number) (Means graph format depth number)
means_moves graph format depth number = node_means_moves

-- at 8 more they are the same
pub means_at_eight : (graph : List Node) (format : Format) (depth number p : ℕ) (tape octets : List ℕ)
    → Means graph format depth number p tape octets → Means graph format depth number (p + 8) tape octets
means_at_eight graph format depth number p t x r =
    (means_moves graph format depth number).at p (p + 8) t x (omega arith) r

-- What is written can be read: octets with zeros in the gaps are octets with anything in the gaps.
use Rattle.std.proofs.Common.{ℕ, suc, ◌+◌, ℤ, pos, List, [], ◌∷◌, length, replicate}
use Rattle.type_graph.specs.declared.width.Order.{Order}
use Rattle.type_graph.specs.declared.width.Width.{Width}
use Rattle.type_graph.specs.declared.width.Width.TheVariants.{Four}
use Rattle.type_graph.specs.declared.node.Node.{Node}
use Rattle.type_graph.specs.declared.node.Node.TheVariants.{Seq, Array, Struct, Union, Frame}
use Rattle.type_graph.specs.Words.{Zeros, reading, writing}
use Rattle.type_graph.specs.Value.{Tree, Number, Bytes, Items, Choice, Trees, NoTree, AndTree, count, node_at, number_width, arm_of}
use Rattle.type_graph.specs.Encoding.{Encoding, Joined, Aligned, Encodes, EncodeAll, Means}
use Rattle.type_graph.proofs.WordLaws.{padding_octets}

-- what encodes in the first way encodes in the second
abbrev Passes : Encoding → Encoding → Type 0
Passes A B = (p : ℕ) (octets : List ℕ) → A p octets → B p octets

-- part by part
joined_passes : (A B C D : Encoding) → Passes A C → Passes B D → Passes (Joined A B) (Joined C D)
joined_passes A B C D a b p x r = record {
  octets1 = r.octets1;
  octets2 = r.octets2;
  octets_is = r.octets_is;
  first = a p r.octets1 r.first;
  second = b (p + length r.octets1) r.octets2 r.second;
}

-- zeros are octets
aligned_passes : (order : Order) (w : Width) (n : ℤ)
    → Passes (Aligned (writing order) w n) (Aligned (reading order) w n)
aligned_passes order w n p x r = record {
  octets1 = r.octets1;
  octets2 = r.octets2;
  octets_is = r.octets_is;
  first = record { long = r.first.long; filled = padding_octets Zeros r.octets1 r.first.filled };
  second = r.second;
}

mutual
  encodes_passes : (order : Order) (graph : List Node) (node : Node) (value : Tree)
      → Passes (Encodes (writing order) graph node value) (Encodes (reading order) graph node value)
  encodes_passes order graph node (Number n) p x r = aligned_passes order (number_width node) n p x r
  encodes_passes order graph node (Bytes text) p x r =
      joined_passes (Aligned (writing order) Four (pos (suc (length text)))) _
      (Aligned (reading order) Four (pos (suc (length text)))) _
      (aligned_passes order Four (pos (suc (length text)))) (λ p x r. r) p x r
  encodes_passes order graph (Seq elem bound) (Items values) p x r =
      joined_passes (Aligned (writing order) Four (pos (count values)))
      (EncodeAll (writing order) graph (replicate (count values) elem) values)
      (Aligned (reading order) Four (pos (count values)))
      (EncodeAll (reading order) graph (replicate (count values) elem) values)
      (aligned_passes order Four (pos (count values)))
      (λ p x r. encode_all_passes order graph (replicate (count values) elem) values p x r) p x r
  encodes_passes order graph (Array elem n) (Items values) p x r =
      encode_all_passes order graph (replicate n elem) values p x r
  encodes_passes order graph (Struct members) (Items values) p x r = encode_all_passes order graph members values p x r
  encodes_passes order graph (Frame members) (Items values) p x r = encode_all_passes order graph members values p x r
  encodes_passes order graph (Union switch arms default) (Choice label values) p x r =
      joined_passes (Aligned (writing order) (number_width (node_at graph switch)) label)
      (EncodeAll (writing order) graph (arm_of arms default label) values)
      (Aligned (reading order) (number_width (node_at graph switch)) label)
      (EncodeAll (reading order) graph (arm_of arms default label) values)
      (aligned_passes order (number_width (node_at graph switch)) label)
      (λ p x r. encode_all_passes order graph (arm_of arms default label) values p x r) p x r
  encodes_passes order graph node value p x r = absurd r

  encode_all_passes : (order : Order) (graph : List Node) (numbers : List ℕ) (values : Trees)
      → Passes (EncodeAll (writing order) graph numbers values) (EncodeAll (reading order) graph numbers values)
  encode_all_passes order graph [] NoTree p x r = r
  encode_all_passes order graph (number ∷ numbers) (AndTree value values) p x r =
      joined_passes (Encodes (writing order) graph (node_at graph number) value)
      (EncodeAll (writing order) graph numbers values)
      (Encodes (reading order) graph (node_at graph number) value) (EncodeAll (reading order) graph numbers values)
      (λ p x r. encodes_passes order graph (node_at graph number) value p x r)
      (λ p x r. encode_all_passes order graph numbers values p x r) p x r
  encode_all_passes order graph numbers values p x r = absurd r

-- what octets mean with zeros in the gaps, they mean with anything there
pub written_is_read : (graph : List Node) (order : Order) (depth number p : ℕ) (tape octets : List ℕ)
    → Means graph (writing order) depth number p tape octets → Means graph (reading order) depth number p tape octets
written_is_read graph order depth number p tape octets r = record {
  value = r.value;
  fits = r.fits;
  tape_is = r.tape_is;
  encodes = encodes_passes order graph (node_at graph number) r.value p octets r.encodes;
}

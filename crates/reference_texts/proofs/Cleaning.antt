-- A value that is read has a writing, as long, with zeros in the gaps.
use Rattle.std.proofs.Common.{◌≡◌, ℕ, zero, suc, ◌+◌, ℤ, pos, List, [], ◌∷◌, ◌++◌, length, replicate, refl, sym, ap, ◌∙◌, subst, length-append, arith}
use Rattle.std.proofs.lemmas.List.{length-replicate}
use Rattle.type_graph.specs.declared.width.Order.{Order}
use Rattle.type_graph.specs.declared.width.Width.{Width}
use Rattle.type_graph.specs.declared.width.Width.TheVariants.{Four}
use Rattle.type_graph.specs.declared.node.Node.{Node}
use Rattle.type_graph.specs.declared.node.Node.TheVariants.{Seq, Array, Struct, Union, Frame}
use Rattle.type_graph.specs.Words.{AllBelow, IsGap, octets_in, pad, reading, word, writing}
use Rattle.type_graph.specs.Value.{Tree, Number, Bytes, Items, Choice, Trees, NoTree, AndTree, count, node_at, number_width, arm_of}
use Rattle.type_graph.specs.Encoding.{Encoding, Just, Joined, Aligned, Encodes, EncodeAll}

-- octets of another encoding, as many
pub record IsClean (B : Encoding) (p : ℕ) (x : List ℕ) : Type 0 where
  pub octets : List ℕ
  pub is : B p octets
  pub long : length octets ≡ length x

abbrev Cleans : Encoding → Encoding → Type 0
Cleans A B = (p : ℕ) (x : List ℕ) → A p x → IsClean B p x

joined_clean : (A B C D : Encoding) → Cleans A C → Cleans B D → Cleans (Joined A B) (Joined C D)
joined_clean A B C D a b p x r =
    let f = a p r.octets1 r.first in
    let s = b (p + length r.octets1) r.octets2 r.second in
    record {
      octets = f.octets ++ s.octets;
      is = record {
        octets1 = f.octets;
        octets2 = s.octets;
        octets_is = refl;
        first = f.is;
        second = subst (λ (n : ℕ). D (p + n) s.octets) (sym f.long) s.is;
      };
      long = length-append f.octets s.octets ∙ ap (λ (n : ℕ). n + length s.octets) f.long
          ∙ ap (λ (n : ℕ). length r.octets1 + n) s.long ∙ sym (length-append r.octets1 r.octets2)
          ∙ ap length (sym r.octets_is);
    }

just_clean : (octets : List ℕ) → Cleans (Just octets) (Just octets)
just_clean octets p x r = record { octets = octets; is = refl; long = ap length (sym r) }

zeros : (n : ℕ) → AllBelow 1 (replicate n 0)
zeros zero = tt
zeros (suc n) = (omega arith, zeros n)

gap_clean : (order : Order) (w : Width) → Cleans (IsGap (reading order) w) (IsGap (writing order) w)
gap_clean order w p x r =
    let n = pad p (octets_in w) in
    record {
      octets = replicate n 0;
      is = record { long = length-replicate {A = ℕ} n 0; filled = zeros n };
      long = length-replicate {A = ℕ} n 0 ∙ sym r.long;
    }

aligned_clean : (order : Order) (w : Width) (n : ℤ) → Cleans (Aligned (reading order) w n) (Aligned (writing order) w n)
aligned_clean order w n =
    joined_clean (IsGap (reading order) w) (Just (word order w n)) (IsGap (writing order) w) (Just (word order w n))
    (gap_clean order w) (just_clean (word order w n))

mutual
  pub encodes_clean : (order : Order) (graph : List Node) (node : Node) (value : Tree)
      → Cleans (Encodes (reading order) graph node value) (Encodes (writing order) graph node value)
  encodes_clean order graph node (Number n) p x r = aligned_clean order (number_width node) n p x r
  encodes_clean order graph node (Bytes text) p x r =
      joined_clean (Aligned (reading order) Four (pos (suc (length text)))) (Just (text ++ 0 ∷ []))
      (Aligned (writing order) Four (pos (suc (length text)))) (Just (text ++ 0 ∷ []))
      (aligned_clean order Four (pos (suc (length text)))) (just_clean (text ++ 0 ∷ [])) p x r
  encodes_clean order graph (Seq elem bound) (Items values) p x r =
      let numbers = replicate (count values) elem in
      joined_clean (Aligned (reading order) Four (pos (count values))) (EncodeAll (reading order) graph numbers values)
      (Aligned (writing order) Four (pos (count values))) (EncodeAll (writing order) graph numbers values)
      (aligned_clean order Four (pos (count values))) (λ q y s. encode_all_clean order graph numbers values q y s) p x r
  encodes_clean order graph (Array elem n) (Items values) p x r =
      encode_all_clean order graph (replicate n elem) values p x r
  encodes_clean order graph (Struct members) (Items values) p x r = encode_all_clean order graph members values p x r
  encodes_clean order graph (Frame members) (Items values) p x r = encode_all_clean order graph members values p x r
  encodes_clean order graph (Union switch arms default) (Choice label values) p x r =
      let w = number_width (node_at graph switch) in
      let numbers = arm_of arms default label in
      joined_clean (Aligned (reading order) w label) (EncodeAll (reading order) graph numbers values)
      (Aligned (writing order) w label) (EncodeAll (writing order) graph numbers values)
      (aligned_clean order w label) (λ q y s. encode_all_clean order graph numbers values q y s) p x r
  encodes_clean order graph node value p x r = absurd r

  encode_all_clean : (order : Order) (graph : List Node) (numbers : List ℕ) (values : Trees)
      → Cleans (EncodeAll (reading order) graph numbers values) (EncodeAll (writing order) graph numbers values)
  encode_all_clean order graph [] NoTree p x r = just_clean [] p x r
  encode_all_clean order graph (number ∷ numbers) (AndTree value values) p x r =
      joined_clean (Encodes (reading order) graph (node_at graph number) value)
      (EncodeAll (reading order) graph numbers values)
      (Encodes (writing order) graph (node_at graph number) value) (EncodeAll (writing order) graph numbers values)
      (λ q y s. encodes_clean order graph (node_at graph number) value q y s)
      (λ q y s. encode_all_clean order graph numbers values q y s) p x r
  encode_all_clean order graph numbers values p x r = absurd r

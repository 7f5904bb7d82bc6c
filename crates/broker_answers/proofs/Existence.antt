-- A value that fits its node has octets, which aren't many.
use Rattle.std.proofs.Common.{ℕ, zero, suc, ◌+◌, ◌-◌, ◌≤◌, ℤ, pos, List, [], ◌∷◌, ◌++◌, length, length-append, replicate, refl, arith}
use Rattle.std.proofs.lemmas.List.{length-replicate}
use Rattle.type_graph.specs.declared.width.Order.{Order}
use Rattle.type_graph.specs.declared.width.Width.{Width}
use Rattle.type_graph.specs.declared.width.Width.TheVariants.{One, Two, Four, Eight}
use Rattle.type_graph.specs.declared.node.Node.{Node}
use Rattle.type_graph.specs.declared.node.Node.TheVariants.{Text, Seq, Array, Struct, Union, Frame}
use Rattle.type_graph.specs.Words.{AllBelow, IsGap, octets_in, pad, twos_complement, word, writing}
use Rattle.type_graph.specs.Value.{Tree, Number, Bytes, Items, Choice, Trees, NoTree, AndTree, count, node_at, number_width, arm_of, Fits, FitAll}
use Rattle.type_graph.specs.Encoding.{Encoding, Just, Joined, Aligned, Encodes, EncodeAll}
use Rattle.type_graph.proofs.WordLaws.{length-plain_word}

-- octets, of which there are so many at most
pub record Short (A : Encoding) (p limit : ℕ) : Type 0 where
  pub octets : List ℕ
  pub is : A p octets
  pub short : length octets ≤ limit

joined_there : (A B : Encoding) (p n m : ℕ) → Short A p n → ((q : ℕ) → Short B q m) → Short (Joined A B) p (n + m)
joined_there A B p n m a b =
    let s = b (p + length a.octets) in
    record {
      octets = a.octets ++ s.octets;
      is = record { octets1 = a.octets; octets2 = s.octets; octets_is = refl; first = a.is; second = s.is };
      short = omega (arith, length-append a.octets s.octets, a.short, s.short);
    }

just_there : (octets : List ℕ) (p : ℕ) → Short (Just octets) p (length octets)
just_there octets p = record { octets = octets; is = refl; short = omega arith }

all_zero : (n : ℕ) → AllBelow 1 (replicate n 0)
all_zero zero = tt
all_zero (suc n) = (omega arith, all_zero n)

pad_short : (w : Width) (p : ℕ) → pad p (octets_in w) ≤ 7
pad_short One p = omega arith
pad_short Two p = omega arith
pad_short Four p = omega arith
pad_short Eight p = omega arith

gap_there : (order : Order) (w : Width) (p : ℕ) → Short (IsGap (writing order) w) p 7
gap_there order w p =
    let n = pad p (octets_in w) in
    record {
      octets = replicate n 0;
      is = record { long = length-replicate {A = ℕ} n 0; filled = all_zero n };
      short = omega (arith, length-replicate {A = ℕ} n 0, pad_short w p);
    }

width_short : (w : Width) → octets_in w ≤ 8
width_short One = omega arith
width_short Two = omega arith
width_short Four = omega arith
width_short Eight = omega arith

aligned_there : (order : Order) (w : Width) (n : ℤ) (p : ℕ) → Short (Aligned (writing order) w n) p 15
aligned_there order w n p =
    let s = joined_there (IsGap (writing order) w) (Just (word order w n)) p 7 (length (word order w n))
    (gap_there order w p) (just_there (word order w n)) in
    record {
      octets = s.octets;
      is = s.is;
      short = omega (arith, s.short, length-plain_word order w (twos_complement (octets_in w) n), width_short w);
    }

-- as many as they are at most, wherever they stand
abbrev mutual
  pub room : Tree → ℕ
  room (Number n) = 15
  room (Bytes text) = 15 + length (text ++ 0 ∷ [])
  room (Items values) = 15 + rooms values
  room (Choice label values) = 15 + rooms values

  pub rooms : Trees → ℕ
  rooms NoTree = 0
  rooms (AndTree value values) = room value + rooms values

more_room : (A : Encoding) (p n m : ℕ) → n ≤ m → Short A p n → Short A p m
more_room A p n m le s = record { octets = s.octets; is = s.is; short = omega (arith, s.short, le) }

mutual
  pub encodes_there : (order : Order) (graph : List Node) (node : Node) (value : Tree) (d : ℕ) → Fits graph node value d
      → (p : ℕ) → Short (Encodes (writing order) graph node value) p (room value)
  encodes_there order graph node (Number n) d f p = aligned_there order (number_width node) n p
  encodes_there order graph (Text bound) (Bytes text) d f p =
      joined_there (Aligned (writing order) Four (pos (suc (length text)))) (Just (text ++ 0 ∷ [])) p 15
      (length (text ++ 0 ∷ [])) (aligned_there order Four (pos (suc (length text))) p) (just_there (text ++ 0 ∷ []))
  encodes_there order graph (Seq elem bound) (Items values) d f p =
      joined_there (Aligned (writing order) Four (pos (count values)))
      (EncodeAll (writing order) graph (replicate (count values) elem) values) p 15 (rooms values)
      (aligned_there order Four (pos (count values)) p)
      (λ q. all_there order graph (replicate (count values) elem) values (d - 1) f.2 q)
  encodes_there order graph (Array elem n) (Items values) d f p =
      more_room (EncodeAll (writing order) graph (replicate n elem) values) p (rooms values) (15 + rooms values)
      (omega arith) (all_there order graph (replicate n elem) values d f p)
  encodes_there order graph (Struct members) (Items values) d f p =
      more_room (EncodeAll (writing order) graph members values) p (rooms values) (15 + rooms values) (omega arith)
      (all_there order graph members values d f p)
  encodes_there order graph (Frame members) (Items values) d f p =
      more_room (EncodeAll (writing order) graph members values) p (rooms values) (15 + rooms values) (omega arith)
      (all_there order graph members values d f p)
  encodes_there order graph (Union switch arms default) (Choice label values) d f p =
      joined_there (Aligned (writing order) (number_width (node_at graph switch)) label)
      (EncodeAll (writing order) graph (arm_of arms default label) values) p 15 (rooms values)
      (aligned_there order (number_width (node_at graph switch)) label p)
      (λ q. all_there order graph (arm_of arms default label) values d f.1 q)
  encodes_there order graph node value d f p = absurd f

  all_there : (order : Order) (graph : List Node) (numbers : List ℕ) (values : Trees) (d : ℕ)
      → FitAll graph numbers values d
      → (p : ℕ) → Short (EncodeAll (writing order) graph numbers values) p (rooms values)
  all_there order graph [] NoTree d f p = just_there [] p
  all_there order graph (number ∷ numbers) (AndTree value values) d f p =
      joined_there (Encodes (writing order) graph (node_at graph number) value)
      (EncodeAll (writing order) graph numbers values) p (room value) (rooms values)
      (encodes_there order graph (node_at graph number) value d f.0 p)
      (λ q. all_there order graph numbers values d f.1 q)
  all_there order graph numbers values d f p = absurd f

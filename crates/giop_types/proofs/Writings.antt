-- A value has one writing at a position: where gaps hold zeros alone, its octets are given.
use Rattle.std.proofs.Common.{◌≡◌, ℕ, suc, ◌+◌, ℤ, pos, List, [], ◌∷◌, ◌++◌, length, replicate, refl, sym, ap₂, ◌∙◌, subst, arith}
use Rattle.type_graph.specs.declared.width.Order.{Order}
use Rattle.type_graph.specs.declared.width.Width.{Width}
use Rattle.type_graph.specs.declared.width.Width.TheVariants.{Four}
use Rattle.type_graph.specs.declared.node.Node.{Node}
use Rattle.type_graph.specs.declared.node.Node.TheVariants.{Seq, Array, Struct, Union, Frame}
use Rattle.type_graph.specs.Words.{AllBelow, writing}
use Rattle.type_graph.specs.Value.{Tree, Number, Bytes, Items, Choice, Trees, NoTree, AndTree, count, node_at, number_width, arm_of}
use Rattle.type_graph.specs.Encoding.{Encoding, Just, Joined, Aligned, Encodes, EncodeAll}

-- at a position it has one list of octets
abbrev Once : Encoding → Type 0
Once A = (p : ℕ) (x y : List ℕ) → A p x → A p y → x ≡ y

zeros_once : (x y : List ℕ) → AllBelow 1 x → AllBelow 1 y → length x ≡ length y → x ≡ y
zeros_once [] [] a b e = refl
zeros_once [] (k ∷ y) a b e = absurd (omega (arith, e))
zeros_once (n ∷ x) [] a b e = absurd (omega (arith, e))
zeros_once (n ∷ x) (k ∷ y) a b e =
    let same : n ≡ k = omega (arith, a.0, b.0) in
    ap₂ (λ (m : ℕ) (l : List ℕ). m ∷ l) same (zeros_once x y a.1 b.1 (omega (arith, e)))

joined_once : (A B : Encoding) → Once A → Once B → Once (Joined A B)
joined_once A B a b p x y r q =
    let first = a p r.octets1 q.octets1 r.first q.first in
    let moved = subst (λ l. B (p + length l) q.octets2) (sym first) q.second in
    r.octets_is ∙ ap₂ (λ (l k : List ℕ). l ++ k) first (b (p + length r.octets1) r.octets2 q.octets2 r.second moved)
    ∙ sym q.octets_is

just_once : (octets : List ℕ) → Once (Just octets)
just_once octets p x y r q = r ∙ sym q

aligned_once : (order : Order) (w : Width) (n : ℤ) → Once (Aligned (writing order) w n)
aligned_once order w n p x y r q =
    let gap = zeros_once r.octets1 q.octets1 r.first.filled q.first.filled (r.first.long ∙ sym q.first.long) in
    r.octets_is ∙ ap₂ (λ (l k : List ℕ). l ++ k) gap (r.second ∙ sym q.second) ∙ sym q.octets_is

mutual
  pub encodes_once : (order : Order) (graph : List Node) (node : Node) (value : Tree)
      → Once (Encodes (writing order) graph node value)
  encodes_once order graph node (Number n) p x y r q = aligned_once order (number_width node) n p x y r q
  encodes_once order graph node (Bytes text) p x y r q =
      joined_once (Aligned (writing order) Four (pos (suc (length text)))) (Just (text ++ 0 ∷ []))
      (aligned_once order Four (pos (suc (length text)))) (just_once (text ++ 0 ∷ [])) p x y r q
  encodes_once order graph (Seq elem bound) (Items values) p x y r q =
      joined_once (Aligned (writing order) Four (pos (count values)))
      (EncodeAll (writing order) graph (replicate (count values) elem) values)
      (aligned_once order Four (pos (count values)))
      (λ p x y r q. encode_all_once order graph (replicate (count values) elem) values p x y r q) p x y r q
  encodes_once order graph (Array elem n) (Items values) p x y r q =
      encode_all_once order graph (replicate n elem) values p x y r q
  encodes_once order graph (Struct members) (Items values) p x y r q =
      encode_all_once order graph members values p x y r q
  encodes_once order graph (Frame members) (Items values) p x y r q =
      encode_all_once order graph members values p x y r q
  encodes_once order graph (Union switch arms default) (Choice label values) p x y r q =
      joined_once (Aligned (writing order) (number_width (node_at graph switch)) label)
      (EncodeAll (writing order) graph (arm_of arms default label) values)
      (aligned_once order (number_width (node_at graph switch)) label)
      (λ p x y r q. encode_all_once order graph (arm_of arms default label) values p x y r q) p x y r q
  encodes_once order graph node value p x y r q = absurd r

  encode_all_once : (order : Order) (graph : List Node) (numbers : List ℕ) (values : Trees)
      → Once (EncodeAll (writing order) graph numbers values)
  encode_all_once order graph [] NoTree p x y r q = r ∙ sym q
  encode_all_once order graph (number ∷ numbers) (AndTree value values) p x y r q =
      joined_once (Encodes (writing order) graph (node_at graph number) value)
      (EncodeAll (writing order) graph numbers values)
      (λ p x y r q. encodes_once order graph (node_at graph number) value p x y r q)
      (λ p x y r q. encode_all_once order graph numbers values p x y r q) p x y r q
  encode_all_once order graph numbers values p x y r q = absurd r

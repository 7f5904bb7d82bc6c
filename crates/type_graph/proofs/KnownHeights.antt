-- Heights of nodes, and tables of those that are known.
use Rattle.std.proofs.Common.{◌≡◌, ◌∙◌, ℕ, zero, suc, ◌+◌, ◌<◌, ◌≤◌, max, min, List, [], ◌∷◌, ◌++◌, length, get_or, length-append, below_more, replicate, drop, Option, Some, None, slice_get, slice_index_or, slice_set, add-one, refl, sym, ap, subst, inl, inr, arith}
use Rattle.std.specs.Prelude.{IfSome}
use Rattle.std.proofs.lemmas.Bool.{cases_lt, cases_eq}
use Rattle.std.proofs.lemmas.List.{get_or_past, get_or-replicate, length-replicate, get_or-set_same, get_or-set_other}
use Rattle.std.proofs.Math.Seq.{get_or-append_seam}
use Rattle.std.proofs.Math.ListN.{get_or-append}
use Rattle.std.proofs.lemmas.Option.{slice_get-get_or, get_or_from_slice_get}
use Rattle.type_graph.specs.declared.node.Node.{Node}
use Rattle.type_graph.specs.declared.node.Node.TheVariants.{Octet}
use Rattle.type_graph.specs.Value.{node_at}
use Rattle.type_graph.specs.GraphRules.{held_by, IsGraph}
use Rattle.type_graph.specs.Walks.{above, height_within, height_of}
use Rattle.type_graph.proofs.HeightLaws.{height_unfolds}
use Rattle.type_graph.specs.Heights.{AreKnown}

-- past the end of a graph there is nothing below
pub height_past : (graph : List Node) (number : ℕ) → length graph ≤ number → 0 ≡ height_of graph number
unfolding height_within
height_past graph number le =
    subst (λ (node : Node). 0 ≡ above (height_within 63 graph) (held_by node)) (sym (get_or_past graph number Octet le))
    refl

-- the height of a node is just above those of its parts
pub height_at : (graph : List Node) → IsGraph graph → (number : ℕ) (node : Node) → node ≡ node_at graph number
    → above (height_of graph) (held_by node) ≡ height_of graph number
height_at graph rules number node is = ap (λ (n : Node). above (height_of graph) (held_by n)) is
    ∙ sym (height_unfolds graph rules number)

-- each part lies lower
pub part_falls : (h : ℕ → ℕ) (numbers : List ℕ) (place part : ℕ) → slice_get numbers place ≡ Some part
    → h part < above h numbers
part_falls h [] place part there = absurd cc
part_falls h (number ∷ numbers) zero part there =
    let same : number ≡ part = cc in
    let equal = ap h same in
    omega (arith, equal)
part_falls h (number ∷ numbers) (suc place) part there = let low = part_falls h numbers place part there in
    omega (arith, low)

-- what lies above the parts from one on is above that one or above those behind it
pub above_next : (h : ℕ → ℕ) (numbers : List ℕ) (place part : ℕ) → slice_get numbers place ≡ Some part
    → above h (drop place numbers) ≡ max (suc (h part)) (above h (drop (suc place) numbers))
above_next h [] place part there = absurd cc
above_next h (number ∷ numbers) zero part there =
    let same : number ≡ part = cc in
    ap (λ (n : ℕ). max (suc (h n)) (above h numbers)) same
above_next h (number ∷ numbers) (suc place) part there = above_next h numbers place part there

-- a table that has nothing
pub none_known : (graph : List Node) (count : ℕ) → AreKnown graph (replicate count None)
none_known graph count number =
    elim (cases_lt number count) as
    (λ v. IfSome (slice_index_or (replicate count None) number None) (λ height. height ≡ height_of graph number)) [
      | inl lt ↦ subst (λ (found : Option ℕ). IfSome found (λ height. height ≡ height_of graph number))
          (sym (get_or-replicate count number None None lt)) tt
      | inr le ↦ subst (λ (found : Option ℕ). IfSome found (λ height. height ≡ height_of graph number))
          (sym (get_or_past (replicate count None) number None (let none : Option ℕ = None in let long =
          length-replicate count none in omega (arith, long)))) tt
    ]

-- a table with one more
pub more_known : (graph : List Node) (known : List (Option ℕ)) (number height : ℕ) → AreKnown graph known
    → number < length known → height ≡ height_of graph number → AreKnown graph (slice_set known number (Some height))
more_known graph known number height all lt is other =
    elim (cases_eq other number) as
    (λ v. IfSome (slice_index_or (slice_set known number (Some height)) other None) (λ h. h ≡ height_of graph other)) [
      | inl same ↦ subst (λ (n : ℕ). IfSome (slice_index_or (slice_set known number (Some height)) n None)
          (λ h. h ≡ height_of graph n)) (sym same)
          (subst (λ (found : Option ℕ). IfSome found (λ h. h ≡ height_of graph number))
          (sym (get_or-set_same known number (Some height) None lt)) is)
      | inr differs ↦ subst (λ (found : Option ℕ). IfSome found (λ h. h ≡ height_of graph other))
          (sym (get_or-set_other known number other (Some height) None differs)) (all other)
    ]

-- the height so far, and what is left, after one part more
pub height_more : (h : ℕ → ℕ) (numbers : List ℕ) (place part low found next : ℕ) → slice_get numbers place ≡ Some part
    → found ≡ h part → h part ≤ 64 → next ≡ max (min (found + 1) 4294967295) low
    → max low (above h (drop place numbers)) ≡ above h numbers
    → max next (above h (drop (place + 1) numbers)) ≡ above h numbers
height_more h numbers place part low found next there is small step so_far =
    let split = above_next h numbers place part there in
    rw add-one (omega (arith, is, small, step, so_far, split))

-- a place in a list has an element
pub none_within : (numbers : List ℕ) (place : ℕ) → place < length numbers → slice_get numbers place ≡ None → ⊥
none_within numbers place lt none = let some = slice_get-get_or numbers place 0 lt in cc

-- the heights of one more node
pub heights_more : (graph : List Node) (heights : List ℕ) (count height : ℕ) → length heights ≡ count
    → ((place : ℕ) → place < count → slice_get heights place ≡ Some (height_of graph place))
    → height ≡ height_of graph count
    → (place : ℕ) → place < count + 1 → slice_get (heights ++ height ∷ []) place ≡ Some (height_of graph place)
heights_more graph heights count height long told here =
    let all = heights ++ height ∷ [] in
    let length_all : length all ≡ count + 1 = length-append heights (height ∷ []) ∙ ap (λ n. n + 1) long in
    below_more (λ place. slice_get all place ≡ Some (height_of graph place)) count
    (λ place lt.
    slice_get-get_or all place 0 (omega (arith, length_all))
    ∙ ap Some (get_or-append heights (height ∷ []) 0 place (omega arith)
    ∙ get_or_from_slice_get heights place (height_of graph place) 0 (told place lt)))
    (slice_get-get_or all count 0 (omega (arith, length_all))
    ∙ ap Some (subst (λ (k : ℕ). get_or all k 0 ≡ height) long (get_or-append_seam heights height [] 0) ∙ here))

-- Tables of shapes, grown by one node, and by one level.
use Rattle.std.proofs.Common.{◌≡◌, ℕ, zero, suc, ◌+◌, ◌<◌, ◌≤◌, inl, inr, List, [], ◌∷◌, ◌++◌, length, get_or, refl, sym, ap, subst, ◌∙◌, arith, below_more, add-one, add-zero}
use Rattle.std.proofs.lemmas.Bool.{cases_lt}
use Rattle.std.proofs.lemmas.List.{get_or_past}
use Rattle.std.proofs.Math.Seq.{get_or-append_seam}
use Rattle.std.proofs.Math.ListN.{get_or-append}
use Rattle.type_graph.specs.declared.node.Node.{Node}
use Rattle.type_graph.specs.declared.node.Node.TheVariants.{Octet}
use Rattle.type_graph.specs.declared.shape.Shape.{Shape}
use Rattle.type_graph.specs.Value.{node_at}
use Rattle.type_graph.specs.Leaves.{leaves_by, leaves_within, leaves_of}
use Rattle.type_graph.specs.inner.Shapes.{IsShape, IsShapeBy, AreShapes, AreShapesBy, AreShapesWithin, size_by, size_within, octet_shape}

-- an octet has the shape of an octet
octet_is : IsShape (Octet ∷ []) 1 octet_shape
octet_is = record {
  run = record {
    words = (record { plain = tt; width = refl }, tt);
    long = refl;
    some = omega arith;
    limited =
        omega arith;
  };
  size = (omega arith, refl);
}

abbrev pub ShapeAt : List Node → (ℕ → List Node) → (ℕ → ℕ) → List Shape → ℕ → Type 0
ShapeAt graph leaves size next number =
    IsShape (leaves_by leaves (node_at graph number)) (size_by size graph (node_at graph number))
    (get_or next number octet_shape)

-- one more node has its shape
pub shape_pushed : (graph : List Node) (table next : List Shape) (i : ℕ) (node : Node) (shape : Shape) → length next ≡ i
    → node_at graph i ≡ node
    → ((leaves : ℕ → List Node) (size : ℕ → ℕ) → AreShapes table leaves size → (number : ℕ) → number < i
    → ShapeAt graph leaves size next number)
    → IsShapeBy graph table node shape
    → (leaves : ℕ → List Node) (size : ℕ → ℕ) → AreShapes table leaves size → (number : ℕ) → number < i + 1
    → ShapeAt graph leaves size (next ++ shape ∷ []) number
shape_pushed graph table next i node shape long is told here leaves size known =
    let last : get_or (next ++ shape ∷ []) i octet_shape ≡ shape =
    subst (λ (k : ℕ). get_or (next ++ shape ∷ []) k octet_shape ≡ shape) long
    (get_or-append_seam next shape [] octet_shape) in
    below_more (ShapeAt graph leaves size (next ++ shape ∷ [])) i
    (λ number lt. subst (IsShape (leaves_by leaves (node_at graph number)) (size_by size graph (node_at graph number)))
    (sym (get_or-append next (shape ∷ []) octet_shape number (omega arith))) (told leaves size known number lt))
    (subst (IsShape (leaves_by leaves (node_at graph i)) (size_by size graph (node_at graph i))) (sym last)
    (subst (λ (n : Node). IsShape (leaves_by leaves n) (size_by size graph n) shape) (sym is) (here leaves size known)))

-- all nodes have their shapes
pub shapes_all : (graph : List Node) (table next : List Shape) (i : ℕ) → length next ≡ i → length graph ≤ i
    → i ≤ length graph
    → ((leaves : ℕ → List Node) (size : ℕ → ℕ) → AreShapes table leaves size → (number : ℕ) → number < i
    → ShapeAt graph leaves size next number)
    → AreShapesBy graph table next
shapes_all graph table next i long low high told = record {
  by = λ leaves size known. record {
    at = λ number. elim (cases_lt number i) as (λ v. ShapeAt graph leaves size next number) [
      | inl lt ↦ told leaves size known number lt
      | inr le ↦
          let out = get_or_past next number octet_shape (omega arith) in
          let octet : node_at graph number ≡ Octet = get_or_past graph number Octet (omega arith) in
          subst (λ (node : Node). IsShape (leaves_by leaves node) (size_by size graph node)
          (get_or next number octet_shape)) (sym octet)
          (subst (IsShape (Octet ∷ []) 1) (sym out) octet_is)
    ];
  };
}

-- within no level a node counts as an octet
pub shapes_none : (graph : List Node) (table : List Shape) → table ≡ [] → AreShapesWithin 0 graph table
unfolding leaves_within size_within
shapes_none graph table e =
    record {
      at = λ number. subst (λ (t : List Shape). IsShape (Octet ∷ []) 1 (get_or t number octet_shape)) (sym e)
          octet_is;
    }

-- one level more
pub shapes_more : (levels : ℕ) (graph : List Node) (table next : List Shape) → AreShapesWithin levels graph table
    → AreShapesBy graph table next → AreShapesWithin (levels + 1) graph next
unfolding leaves_within size_within
shapes_more levels graph table next known above =
    let more : AreShapesWithin (suc levels) graph next =
    above.by (leaves_within levels graph) (size_within levels graph) known in
    rw add-one more

-- the shape that a table has at a number
pub shape_known : (graph list : List Node) (table given : List Shape) (number : ℕ) (shape : Shape)
    → AreShapesWithin 64 graph table → graph ≡ list → given ≡ table → shape ≡ get_or given number octet_shape
    → IsShape (leaves_of list number) (size_within 64 list number) shape
shape_known graph list table given number shape known e f is =
    let read : shape ≡ get_or table number octet_shape = is ∙ ap (λ (t : List Shape). get_or t number octet_shape) f in
    subst (λ (l : List Node). IsShape (leaves_of l number) (size_within 64 l number) shape) e
    (subst (IsShape (leaves_of graph number) (size_within 64 graph number)) (sym read) (known.at number))

-- a table that is its own next one is that of every later level
pub shapes_stay : (levels more : ℕ) (graph : List Node) (table : List Shape) → AreShapesWithin levels graph table
    → AreShapesBy graph table table → AreShapesWithin (levels + more) graph table
shapes_stay levels zero graph table known above = rw add-zero known
shapes_stay levels (suc more) graph table known above =
    let next = shapes_more (levels + more) graph table table (shapes_stay levels more graph table known above) above in
    let e : levels + suc more ≡ levels + more + 1 = omega arith in
    rw e next

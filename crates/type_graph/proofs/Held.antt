-- What a node holds: the arms and the default of a union apart, and that all of it is in the graph.
use Rattle.std.proofs.Common.{◌≡◌, ◌↔◌, ◌<◌, ℕ, ℤ, List, [], ◌∷◌, ◌++◌, length, map, All, Option, Some, None, IfSome, option_to_list, slice_get, refl}
use Rattle.std.specs.Prelude.{IsSomeAnd}
use Rattle.std.proofs.lemmas.List.Elements.{All-cons, All-nil, All-head, All-tail, All-weaker}
use Rattle.std.proofs.lemmas.Option.{slice_get_within}
use Rattle.type_graph.specs.declared.node.Node.{Node}
use Rattle.type_graph.specs.declared.node.Node.TheVariants.{Integer, Octet, Char, Boolean, Enum, Text, Seq, Array, Struct, Union, Frame}
use Rattle.type_graph.specs.GraphRules.{IsNoFrame, IsPart, IsSwitch, IsNode, held_by}

default_holds : (P : ℕ → Type 0) (default : Option ℕ) → IfSome default P ↔ All P (option_to_list default)
default_holds P None = ((λ h. All-nil P), (λ h. tt))
default_holds P (Some number) = ((λ h. All-cons P number [] h (All-nil P)), (λ h. All-head P number [] h))

pub union_holds : (P : ℕ → Type 0) (arms : List (ℤ × ℕ)) (default : Option ℕ)
    → (All (λ arm. P arm.1) arms × IfSome default P) ↔ All P (map (λ arm. arm.1) arms ++ option_to_list default)
union_holds P [] default =
    ((λ h. (default_holds P default).0 h.1), (λ h. (All-nil (λ (arm : ℤ × ℕ). P arm.1), (default_holds P default).1 h)))
union_holds P (arm ∷ more) default =
    let rest = union_holds P more default in
    let Q : ℤ × ℕ → Type 0 = λ arm. P arm.1 in (
      λ h. All-cons P arm.1 _ (All-head Q arm more h.0) (rest.0 (All-tail Q arm more h.0, h.1)),
      λ h. (
        All-cons Q arm more (All-head P arm.1 _ h) (rest.1 (All-tail P arm.1 _ h)).0,
        (rest.1 (All-tail P arm.1 _ h)).1,
      ),
    )

-- a place that has an element is in the list
within_from_some : {A : Type 0} (P : A → Type 0) (xs : List A) (k : ℕ) (r : Option A) → slice_get xs k ≡ r
    → IsSomeAnd r P → k < length xs
within_from_some P xs k None e h = absurd h
within_from_some P xs k (Some x) e h = slice_get_within xs k x e

-- a part is in the graph
part_within : (graph : List Node) (number : ℕ) → IsPart graph number → number < length graph
part_within graph number is_part = within_from_some IsNoFrame graph number (slice_get graph number) refl is_part

parts_within : (graph : List Node) (numbers : List ℕ) → All (IsPart graph) numbers
    → All (λ number. number < length graph) numbers
parts_within graph numbers parts =
    All-weaker (IsPart graph) (λ number. number < length graph) (part_within graph) numbers parts

-- so is a default
default_within : (graph : List Node) (default : Option ℕ) → IfSome default (IsPart graph)
    → IfSome default (λ number. number < length graph)
default_within graph None h = tt
default_within graph (Some number) h = part_within graph number h

-- what a node that keeps its rules holds is in the graph
pub held_within : (graph : List Node) (node : Node) → IsNode graph node
    → All (λ number. number < length graph) (held_by node)
held_within graph (Array elem n) h =
    All-cons (λ number. number < length graph) elem [] (part_within graph elem h.0)
    (All-nil (λ number. number < length graph))
held_within graph (Struct members) h = parts_within graph members h.1.parts
held_within graph (Frame members) h = parts_within graph members h.parts
held_within graph (Union switch arms default) h =
    (union_holds (λ number. number < length graph) arms default).0 (
      All-weaker (λ (arm : ℤ × ℕ). IsPart graph arm.1) (λ (arm : ℤ × ℕ). arm.1 < length graph)
          (λ arm part. part_within graph arm.1 part) arms h.parts,
      default_within graph default h.default_part,
    )
held_within graph (Integer width signed) h = All-nil (λ number. number < length graph)
held_within graph Octet h = All-nil (λ number. number < length graph)
held_within graph Char h = All-nil (λ number. number < length graph)
held_within graph Boolean h = All-nil (λ number. number < length graph)
held_within graph (Enum n) h = All-nil (λ number. number < length graph)
held_within graph (Text bound) h = All-nil (λ number. number < length graph)
held_within graph (Seq elem bound) h = All-nil (λ number. number < length graph)

-- and so are the elements of a sequence
pub elem_within : (graph : List Node) (elem bound : ℕ) → IsNode graph (Seq elem bound) → elem < length graph
elem_within graph elem bound h = part_within graph elem h.0

-- and so is the discriminator of a union
pub switch_within : (graph : List Node) (switch : ℕ) (arms : List (ℤ × ℕ)) (default : Option ℕ)
    → IsNode graph (Union switch arms default) → switch < length graph
switch_within graph switch arms default h =
    within_from_some IsSwitch graph switch (slice_get graph switch) refl h.switches

-- Nodes to which others are added, and in which what has no definition gets one: what is right stays right.
use Rattle.std.proofs.Common.{◌≡◌, ◌∙◌, ◌⊎◌, inl, inr, ℕ, zero, suc, ◌<◌, ◌≤◌, All, List, [], ◌∷◌, ◌++◌, length, Option, Some, None, refl, sym, subst, arith}
use Rattle.std.specs.Prelude.{slice_get, slice_set, IfSome, IsSomeAnd, ℤ}
use Rattle.std.proofs.lemmas.List.Elements.{All-weaker}
use Rattle.std.proofs.lemmas.Option.{get_or_from_slice_get, slice_get_within}
use Rattle.type_graph.specs.declared.node.Node.{Node}
use Rattle.type_graph.specs.declared.node.Node.TheVariants.{Integer, Octet, Char, Boolean, Enum, Text, Seq, Array, Struct, Union, Frame}
use Rattle.type_graph.specs.Value.{IsNumber, node_at}
use Rattle.type_graph.specs.GraphRules.{AreMembers, HasOther, IsNoFrame, IsNode, IsPart, IsSwitch, IsUnion}
use Rattle.lowered_types.specs.Sound.{BeginsWithText, IsFrame, IsFrameAt, IsIdFrame}
use Rattle.lowered_types.specs.Lowered.{undefined}
use Rattle.lowered_types.proofs.Spots.{is_some_and, push_low, set_here, set_other, same_or_not, some_is, there_at}

-- a node stays, or it had no definition and is one that others may refer to
abbrev pub Becomes : List Node → ℕ → Node → Type 0
Becomes later n node = (slice_get later n ≡ Some node) ⊎ ((node ≡ undefined) × IsPart later n)

abbrev pub Grows : List Node → List Node → Type 0
Grows graph later = (n : ℕ) (node : Node) → slice_get graph n ≡ Some node → Becomes later n node

pub grows_none : (graph : List Node) → Grows graph graph
grows_none graph n node is = inl is

-- it has no definition yet, or keeps the rules of nodes
abbrev pub IsRight : List Node → Node → Type 0
IsRight graph node = (node ≡ undefined) ⊎ IsNode graph node

-- ---- what stays

pub stays : (graph later : List Node) → Grows graph later → (n : ℕ) (node : Node) → slice_get graph n ≡ Some node
    → (node ≡ undefined → ⊥)
    → slice_get later n ≡ Some node
stays graph later grows n node is defined = by (grows n node is)
  where
    by : Becomes later n node → slice_get later n ≡ Some node
    by (inl same) = same
    by (inr (open_yet, part)) = absurd (defined open_yet)

pub part_stays : (graph later : List Node) → Grows graph later → (n : ℕ) → IsPart graph n → IsPart later n
part_stays graph later grows n h =
    let (node, is, plain) = some_is (slice_get graph n) IsNoFrame h in
    by node plain (grows n node is)
  where
    by : (node : Node) → IsNoFrame node → Becomes later n node → IsPart later n
    by node plain (inl same) = is_some_and (slice_get later n) IsNoFrame node same plain
    by node plain (inr (open_yet, part)) = part

pub grows_on : (graph mid later : List Node) → Grows graph mid → Grows mid later → Grows graph later
grows_on graph mid later first second n node is = by (first n node is)
  where
    by : Becomes mid n node → Becomes later n node
    by (inl same) = second n node same
    by (inr (open_yet, part)) = inr (open_yet, part_stays mid later second n part)

pub parts_stay : (graph later : List Node) → Grows graph later → (ns : List ℕ) → All (IsPart graph) ns
    → All (IsPart later) ns
parts_stay graph later grows ns h = All-weaker (IsPart graph) (IsPart later) (part_stays graph later grows) ns h

pub grows_long : (graph later : List Node) → Grows graph later → length graph ≤ length later
grows_long graph later grows = by (length graph) refl
  where
    there : (o : Option Node) → IsSomeAnd o IsNoFrame → (node : Node) × (o ≡ Some node)
    there None h = absurd h
    there (Some node) h = (node, refl)

    last : (k : ℕ) (node : Node) → Becomes later k node → k < length later
    last k node (inl same) = slice_get_within later k node same
    last k node (inr (open_yet, part)) = let (other, is) = there (slice_get later k) part in
        slice_get_within later k other is

    by : (n : ℕ) → length graph ≡ n → length graph ≤ length later
    by zero is = omega (arith, is)
    by (suc k) is =
        let (node, at) = there_at graph k (omega (arith, is)) in
        let lt = last k node (grows k node at) in
        omega (arith, is, lt)

-- a node of a kind of which one without definition isn't
kind_stays : (P : Node → Type 0) → (P undefined → ⊥) → (graph later : List Node) → Grows graph later → (n : ℕ)
    → IsSomeAnd (slice_get graph n) P
    → (node : Node) × (slice_get graph n ≡ Some node) × (slice_get later n ≡ Some node) × P node
kind_stays P never graph later grows n h =
    let (node, is, has) = some_is (slice_get graph n) P h in
    (node, is, stays graph later grows n node is (λ same. never (subst P same has)), has)

pub frame_stays : (graph later : List Node) → Grows graph later → (n : ℕ) → IsFrameAt graph n → IsFrameAt later n
frame_stays graph later grows n h =
    let (node, is, there, has) = kind_stays IsFrame (λ no. no) graph later grows n h in
    is_some_and (slice_get later n) IsFrame node there has

pub id_stays : (graph later : List Node) → Grows graph later → (n : ℕ) → IsIdFrame graph n → IsIdFrame later n
id_stays graph later grows n h =
    let (node, is, there, has) = kind_stays (BeginsWithText graph) (λ no. no) graph later grows n h in
    is_some_and (slice_get later n) (BeginsWithText later) node there (by node has)
  where
    text : (m : ℕ) → slice_get graph m ≡ Some (Text 0) → slice_get later m ≡ Some (Text 0)
    text m is = stays graph later grows m (Text 0) is (λ same. cc)

    by : (node : Node) → BeginsWithText graph node → BeginsWithText later node
    by (Frame members) has =
        let (m, first, is) = some_is (slice_get members 0) (λ m. slice_get graph m ≡ Some (Text 0)) has in
        is_some_and (slice_get members 0) (λ m. slice_get later m ≡ Some (Text 0)) m first (text m is)
    by node has = absurd has

members_stay : (graph later : List Node) → Grows graph later → (ns : List ℕ) → AreMembers graph ns → AreMembers later ns
members_stay graph later grows ns h = record { limited = h.limited; parts = parts_stay graph later grows ns h.parts }

union_stays : (graph later : List Node) → Grows graph later → (switch : ℕ) (arms : List (ℤ × ℕ)) (default : Option ℕ)
    → IsUnion graph switch arms default → IsUnion later switch arms default
union_stays graph later grows switch arms default h =
    let (node, is, there, has) = kind_stays IsSwitch (λ no. no) graph later grows switch h.switches in
    let same : node_at graph switch ≡ node_at later switch =
    get_or_from_slice_get graph switch node Octet is ∙ sym (get_or_from_slice_get later switch node Octet there) in
    record {
      switches = is_some_and (slice_get later switch) IsSwitch node there has;
      limited = h.limited;
      rising = h.rising;
      labels = subst (λ k. All (λ arm. IsNumber k arm.0) arms) same h.labels;
      parts = All-weaker (λ arm. IsPart graph arm.1) (λ arm. IsPart later arm.1)
          (λ arm. part_stays graph later grows arm.1) arms h.parts;
      default_part = by default h.default_part;
      needed = subst (λ k. IfSome default (λ member. HasOther k arms)) same h.needed;
    }
  where
    by : (default : Option ℕ) → IfSome default (IsPart graph) → IfSome default (IsPart later)
    by None h = tt
    by (Some n) h = part_stays graph later grows n h

pub node_stays : (graph later : List Node) → Grows graph later → (node : Node) → IsNode graph node → IsNode later node
node_stays graph later grows (Integer width signed) h = h
node_stays graph later grows Octet h = h
node_stays graph later grows Char h = h
node_stays graph later grows Boolean h = h
node_stays graph later grows (Enum n) h = h
node_stays graph later grows (Text bound) h = h
node_stays graph later grows (Seq elem bound) h = (part_stays graph later grows elem h.0, h.1)
node_stays graph later grows (Array elem n) h = (part_stays graph later grows elem h.0, h.1, h.2)
node_stays graph later grows (Struct members) h = (h.0, members_stay graph later grows members h.1)
node_stays graph later grows (Union switch arms default) h = union_stays graph later grows switch arms default h
node_stays graph later grows (Frame members) h = members_stay graph later grows members h

pub right_stays : (graph later : List Node) → Grows graph later → (node : Node) → IsRight graph node
    → IsRight later node
right_stays graph later grows node (inl open_yet) = inl open_yet
right_stays graph later grows node (inr h) = inr (node_stays graph later grows node h)

-- ---- one node more, and one in the place of what has no definition

pub push_grows : (graph : List Node) (node : Node) → Grows graph (graph ++ node ∷ [])
push_grows graph node n old is = inl (push_low graph node n old is)

pub set_grows : (graph : List Node) (number : ℕ) (node : Node) → slice_get graph number ≡ Some undefined
    → IsNoFrame node
    → Grows graph (slice_set graph number node)
set_grows graph number node open_yet plain n old is = by (same_or_not n number)
  where
    by : (n ≡ number) ⊎ (n ≡ number → ⊥) → Becomes (slice_set graph number node) n old
    by (inl same) =
        let here = set_here graph number undefined node open_yet in
        let at : slice_get graph number ≡ Some old = subst (λ j. slice_get graph j ≡ Some old) same is in
        let is_open : old ≡ undefined = cc in
        inr (
          is_open,
          subst (IsPart (slice_set graph number node)) (sym same)
              (is_some_and (slice_get (slice_set graph number node) number) IsNoFrame node here plain),
        )
    by (inr differ) = inl (set_other graph number n node differ ∙ is)

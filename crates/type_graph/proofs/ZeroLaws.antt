-- The value of zeros: its tape has zeros alone, and it fits.
use Rattle.std.proofs.Common.{◌≡◌, inl, inr, ℕ, zero, suc, ◌<◌, ◌≤◌, pos, Bool, true, false, List, [], ◌∷◌, ◌++◌, length, replicate, sum_by, Option, Some, None, slice_get, refl, sym, ap, ap₂, ◌∙◌, subst, arith}
use Rattle.std.specs.List.{AllByRecursion}
use Rattle.std.specs.Prelude.{IsSomeAnd}
use Rattle.std.proofs.lemmas.Option.{slice_get_within, get_or_from_slice_get}
use Rattle.std.proofs.lemmas.Bool.{cases_lt}
use Rattle.std.proofs.lemmas.List.{get_or_past, replicate-append-replicate}
use Rattle.std.proofs.lemmas.List.Sums.{sum_by-cons}
use Rattle.type_graph.specs.declared.width.Width.{Width}
use Rattle.type_graph.specs.declared.width.Width.TheVariants.{One, Two, Four, Eight}
use Rattle.type_graph.specs.declared.width.Order.TheVariants.{Big}
use Rattle.type_graph.specs.declared.node.Node.{Node}
use Rattle.type_graph.specs.declared.node.Node.TheVariants.{Integer, Octet, Char, Boolean, Enum, Text, Seq, Array, Struct, Union, Frame}
use Rattle.type_graph.specs.Words.{octets_in, word}
use Rattle.type_graph.specs.Value.{Tree, node_at, number_width, arm_of, IsNumber, IsNumeric, Fits, FitAll, tape_of, tapes_of, InBound}
use Rattle.type_graph.specs.GraphRules.{held_by, IsShallow, IsSwitch, IsNode, IsGraph}
use Rattle.type_graph.specs.Zero.{trees_of, zero_by, zero_value}
use Rattle.type_graph.specs.inner.Shapes.{size_by, size_within}
use Rattle.type_graph.proofs.WordLaws.{all_weaken}
use Rattle.type_graph.proofs.HeldEach.{all_chosen, all_repeated}

-- the octets of the number 0
zero_word : (w : Width) → word Big w (pos 0) ≡ replicate (octets_in w) 0
zero_word One = refl
zero_word Two = refl
zero_word Four = refl
zero_word Eight = refl

module _ (graph : List Node) where
  -- the tape of the value has so many zeros
  abbrev pub HasZeros : (ℕ → Tree) → (ℕ → ℕ) → ℕ → Type 0
  HasZeros tree size number = tape_of graph (node_at graph number) (tree number) ≡ replicate (size number) 0

  -- tapes of zeros joined are one
  zeros_of : (tree : ℕ → Tree) (size : ℕ → ℕ) (numbers : List ℕ) → AllByRecursion (HasZeros tree size) numbers
      → tapes_of graph numbers (trees_of tree numbers) ≡ replicate (sum_by size numbers) 0
  zeros_of tree size [] a = refl
  zeros_of tree size (number ∷ numbers) a =
      ap₂ (λ front back. front ++ back) a.0 (zeros_of tree size numbers a.1)
      ∙ replicate-append-replicate (size number) (sum_by size numbers) 0
      ∙ ap (λ n. replicate n 0) (sym (sum_by-cons size number numbers))

  -- a node's zeros, where those of the nodes that it holds are known
  zeros_by : (tree : ℕ → Tree) (size : ℕ → ℕ) (node : Node) → AllByRecursion (HasZeros tree size) (held_by node)
      → tape_of graph node (zero_by tree node) ≡ replicate (size_by size graph node) 0
  zeros_by tree size (Integer w signed) a = zero_word w
  zeros_by tree size Octet a = zero_word One
  zeros_by tree size Char a = zero_word One
  zeros_by tree size Boolean a = zero_word One
  zeros_by tree size (Enum n) a = zero_word Four
  zeros_by tree size (Text bound) a = refl
  zeros_by tree size (Seq elem bound) a = refl
  zeros_by tree size (Array elem n) a =
      zeros_of tree size (replicate n elem) (all_repeated (HasZeros tree size) n elem a.0)
  zeros_by tree size (Struct members) a = zeros_of tree size members a
  zeros_by tree size (Frame members) a = zeros_of tree size members a
  zeros_by tree size (Union switch arms default) a =
      let chosen = zeros_of tree size (arm_of arms default (pos 0))
      (all_chosen (HasZeros tree size) arms default (pos 0) a) in
      let w = number_width (node_at graph switch) in
      ap₂ (λ front back. front ++ back) (zero_word w) chosen
      ∙ replicate-append-replicate (octets_in w) (sum_by size (arm_of arms default (pos 0))) 0

  -- the tape of a shallow node's zeros
  pub zeros_within : (levels number : ℕ) → IsShallow levels graph number
      → HasZeros (zero_value levels graph) (size_within levels graph) number
  unfolding IsShallow zero_value size_within
  zeros_within zero number h = absurd h
  zeros_within (suc levels) number h =
      zeros_by (zero_value levels graph) (size_within levels graph) (node_at graph number)
      (all_weaken (IsShallow levels graph) (HasZeros (zero_value levels graph) (size_within levels graph))
      (held_by (node_at graph number)) (λ m s. zeros_within levels m s) h)

  -- zero is a value where it needs a rule of the graph to be one
  abbrev pub TakesZero : Node → Type 0
  TakesZero (Enum n) = 0 < n
  TakesZero (Union switch arms default) = IsNumber (node_at graph switch) (pos 0)
  TakesZero node = Unit {0}

  -- a value of zeros fits its node
  abbrev pub FitsZero : ℕ → (ℕ → Tree) → ℕ → Type 0
  FitsZero depth tree number = Fits graph (node_at graph number) (tree number) depth

  -- values of zeros fit their nodes
  fit_zeros : (depth : ℕ) (tree : ℕ → Tree) (numbers : List ℕ) → AllByRecursion (FitsZero depth tree) numbers
      → FitAll graph numbers (trees_of tree numbers) depth
  fit_zeros depth tree [] a = tt
  fit_zeros depth tree (number ∷ numbers) a = (a.0, fit_zeros depth tree numbers a.1)

  -- an integer takes 0
  whole_zero : (w : Width) (signed : Bool) → IsNumber (Integer w signed) (pos 0)
  whole_zero One true = omega arith
  whole_zero Two true = omega arith
  whole_zero Four true = omega arith
  whole_zero Eight true = omega arith
  whole_zero One false = omega arith
  whole_zero Two false = omega arith
  whole_zero Four false = omega arith
  whole_zero Eight false = omega arith

  -- a number that takes 0 has it as a value
  pub numeric_zero : (node : Node) → IsNumeric node → TakesZero node → IsNumber node (pos 0)
  numeric_zero (Integer w signed) h z = whole_zero w signed
  numeric_zero Octet h z = omega arith
  numeric_zero Char h z = omega arith
  numeric_zero Boolean h z = omega arith
  numeric_zero (Enum n) h z = z
  numeric_zero node h z = absurd h

  -- no bound is below 0
  none_in_bound : (bound : ℕ) → InBound bound 0
  none_in_bound zero = tt
  none_in_bound (suc b) = omega arith

  -- a node's zeros fit where those of the nodes that it holds do
  fits_by : (depth : ℕ) → 1 ≤ depth → (tree : ℕ → Tree) (node : Node) → TakesZero node
      → AllByRecursion (FitsZero depth tree) (held_by node) → Fits graph node (zero_by tree node) depth
  fits_by depth deep tree (Integer w signed) z a = numeric_zero (Integer w signed) tt z
  fits_by depth deep tree Octet z a = numeric_zero Octet tt z
  fits_by depth deep tree Char z a = numeric_zero Char tt z
  fits_by depth deep tree Boolean z a = numeric_zero Boolean tt z
  fits_by depth deep tree (Enum n) z a = numeric_zero (Enum n) tt z
  fits_by depth deep tree (Text bound) z a = record { in_bound = none_in_bound bound; short = omega arith; octets = tt }
  fits_by depth deep tree (Seq elem bound) z a =
      (deep, record { in_bound = none_in_bound bound; short = omega arith }, tt)
  fits_by depth deep tree (Array elem n) z a =
      fit_zeros depth tree (replicate n elem) (all_repeated (FitsZero depth tree) n elem a.0)
  fits_by depth deep tree (Struct members) z a = fit_zeros depth tree members a
  fits_by depth deep tree (Frame members) z a = fit_zeros depth tree members a
  fits_by depth deep tree (Union switch arms default) z a =
      (z, fit_zeros depth tree (arm_of arms default (pos 0)) (all_chosen (FitsZero depth tree) arms default (pos 0) a))

  -- the zeros of a shallow node fit it
  pub zero_fits : ((number : ℕ) → TakesZero (node_at graph number)) → (depth : ℕ) → 1 ≤ depth → (levels number : ℕ)
      → IsShallow levels graph number → FitsZero depth (zero_value levels graph) number
  unfolding IsShallow zero_value
  zero_fits takes depth deep zero number h = absurd h
  zero_fits takes depth deep (suc levels) number h =
      fits_by depth deep (zero_value levels graph) (node_at graph number) (takes number)
      (all_weaken (IsShallow levels graph) (FitsZero depth (zero_value levels graph)) (held_by (node_at graph number))
      (λ m s. zero_fits takes depth deep levels m s) h)

-- 0 is a value of a discriminator
switch_zero : (graph : List Node) (node : Node) → IsSwitch node → IsNode graph node → IsNumber node (pos 0)
switch_zero graph (Integer w signed) s h = whole_zero graph w signed
switch_zero graph Char s h = omega arith
switch_zero graph Boolean s h = omega arith
switch_zero graph (Enum n) s h = h.0
switch_zero graph node s h = absurd s

-- of the one of a union too
zero_at_switch : (graph : List Node) (switch : ℕ) → IsGraph graph → (found : Option Node)
    → slice_get graph switch ≡ found → IsSomeAnd found IsSwitch → IsNumber (node_at graph switch) (pos 0)
zero_at_switch graph switch rules None e s = absurd s
zero_at_switch graph switch rules (Some node) e s =
    let is : node_at graph switch ≡ node = get_or_from_slice_get graph switch node Octet e in
    let keeps = rules.nodes switch Octet (slice_get_within graph switch node e) in
    subst (λ (n : Node). IsNumber n (pos 0)) (sym is) (switch_zero graph node s (subst (IsNode graph) is keeps))

-- a node that keeps its rules in a graph
node_takes_zero : (graph : List Node) → IsGraph graph → (node : Node) → IsNode graph node → TakesZero graph node
node_takes_zero graph rules (Enum n) h = h.0
node_takes_zero graph rules (Union switch arms default) h =
    zero_at_switch graph switch rules (slice_get graph switch) refl h.switches
node_takes_zero graph rules node h = tt

-- every node of a graph takes zero
pub takes_zero : (graph : List Node) → IsGraph graph → (number : ℕ) → TakesZero graph (node_at graph number)
takes_zero graph rules number = elim (cases_lt number (length graph)) as (λ v. TakesZero graph (node_at graph number)) [
  | inl lt ↦ node_takes_zero graph rules (node_at graph number) (rules.nodes number Octet lt)
  | inr le ↦ subst (TakesZero graph) (sym (get_or_past graph number Octet le)) tt
]

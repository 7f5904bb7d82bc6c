-- Of how many pieces a node is made: an instruction can take so many at once.
use Rattle.std.specs.Prelude.{ℕ, zero, suc, Bool, eqb, ◌<◌, ◌≡◌, List, ◌∷◌, Option, Some, None, if◌then◌else◌, All, sum_by}
use Rattle.std.specs.List.{list_any}
use Rattle.type_graph.specs.declared.node.Node.{Node}
use Rattle.type_graph.specs.Value.{node_at}
use Rattle.routine_checker.specs.declared.counts.CountedNode.{CountedNode}
use Rattle.routine_checker.specs.declared.counts.Entries.{Entries}
use Rattle.routine_checker.specs.Taking.{parts_of, taken}
use Rattle.routine_checker.specs.inner.Kinds.{is_piece_of}

-- the sum for the parts, 0 where one of them has none
abbrev pub parts_in : (ℕ → ℕ) → Option (List ℕ) → ℕ
parts_in count None = 0
parts_in count (Some parts) = if list_any (λ part. eqb (count part) 0) parts then 0 else sum_by count parts

abbrev pub pieces_by : (ℕ → ℕ) → Bool → Node → ℕ
pieces_by count wanted node = if wanted then 1 else parts_in count (parts_of node)

-- how many wanted nodes the node of the number is made of, 0 where it isn't made of these alone
unfoldable pub pieces_in : ℕ → (ℕ → Bool) → List Node → ℕ → ℕ
pieces_in zero wanted graph number = 0
pieces_in (suc levels) wanted graph number =
    pieces_by (pieces_in levels wanted graph) (wanted number) (node_at graph number)

-- ---- as the code keeps them

abbrev pub IsMade : List Node → CountedNode → Type 0
IsMade graph made = 0 < made.n → pieces_in 64 (is_piece_of made.piece graph) graph made.number ≡ made.n

abbrev pub AreEntries : List Node → Entries → Type 0
AreEntries graph counts = All (IsMade graph) counts.entries.items

-- so many wanted nodes the node is made of, whatever stands behind
abbrev pub Yields : ℕ → (ℕ → Bool) → List Node → ℕ → Type 0
Yields n wanted graph number = (more : List ℕ) → taken n wanted graph (number ∷ more) ≡ Some more

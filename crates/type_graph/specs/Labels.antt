-- The labels of a union, between the bounds of what its discriminator has as values.
use Rattle.std.specs.Prelude.{◌≡◌, ◌≢◌, ℕ, suc, ◌<◌, ◌↔◌, All, ℤ, pos, ◌≤ℤ◌, ◌<ℤ◌, ◌+ℤ◌, List, length}
use Rattle.type_graph.specs.declared.node.Node.{Node}
use Rattle.type_graph.specs.Value.{IsNumber}
use Rattle.type_graph.specs.GraphRules.{label_at}

-- the values of the node are the numbers from the least up to the end, which is none of them; there are so many
pub record AreValues (node : Node) (least end : ℤ) (count : ℕ) : Type 0 where
  pub between : (n : ℤ) → IsNumber node n ↔ (least ≤ℤ n) × (n <ℤ end)
  pub wide : end ≡ least +ℤ pos count

-- each label lies between the bounds
abbrev pub AreWithin : ℤ → ℤ → List (ℤ × ℕ) → Type 0
AreWithin least end arms = All (λ arm. (least ≤ℤ arm.0) × (arm.0 <ℤ end)) arms

-- each label is less than the next
abbrev pub AreRising : List (ℤ × ℕ) → Type 0
AreRising arms = (place : ℕ) → suc place < length arms → label_at arms place <ℤ label_at arms (suc place)

-- a number between the bounds is no label
pub record HasOtherWithin (least end : ℤ) (arms : List (ℤ × ℕ)) : Type 0 where
  pub other : ℤ
  pub from : least ≤ℤ other
  pub below : other <ℤ end
  pub no_label : All (λ arm. arm.0 ≢ other) arms

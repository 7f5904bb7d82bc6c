-- The parts of a node of a graph are in the graph.
use Rattle.std.proofs.Common.{ℕ, ◌<◌, ℤ, List, length, replicate, Option}
use Rattle.std.proofs.lemmas.List.Elements.{recursion_from_All}
use Rattle.type_graph.specs.declared.node.Node.{Node}
use Rattle.type_graph.specs.declared.node.Node.TheVariants.{Seq, Array, Struct, Union, Frame}
use Rattle.type_graph.specs.Value.{arm_of}
use Rattle.type_graph.specs.GraphRules.{IsNode, held_by}
use Rattle.type_graph.proofs.Held.{held_within, elem_within}
use Rattle.type_graph.proofs.HeldEach.{all_chosen, all_repeated}
use Rattle.idl_value.specs.inner.PartList.{AreWithin}

module _ (graph : List Node) where
  -- what a node holds
  held_are_within : (node : Node) → IsNode graph node → AreWithin graph (held_by node)
  held_are_within node h =
      recursion_from_All (λ number. number < length graph) (held_by node) (held_within graph node h)

  pub repeated_are_within : (n number : ℕ) → number < length graph → AreWithin graph (replicate n number)
  repeated_are_within n number lt = all_repeated (λ m. m < length graph) n number lt

  pub elements_are_within : (elem bound n : ℕ) → IsNode graph (Seq elem bound) → AreWithin graph (replicate n elem)
  elements_are_within elem bound n h =
      all_repeated (λ number. number < length graph) n elem (elem_within graph elem bound h)

  pub copies_are_within : (elem n : ℕ) → IsNode graph (Array elem n) → AreWithin graph (replicate n elem)
  copies_are_within elem n h =
      all_repeated (λ number. number < length graph) n elem (held_are_within (Array elem n) h).0

  pub members_are_within : (members : List ℕ) → IsNode graph (Struct members) → AreWithin graph members
  members_are_within members h = held_are_within (Struct members) h

  pub frame_is_within : (members : List ℕ) → IsNode graph (Frame members) → AreWithin graph members
  frame_is_within members h = held_are_within (Frame members) h

  pub arm_is_within : (switch : ℕ) (arms : List (ℤ × ℕ)) (default : Option ℕ) (a : ℤ)
      → IsNode graph (Union switch arms default) → AreWithin graph (arm_of arms default a)
  arm_is_within switch arms default a h =
      all_chosen (λ number. number < length graph) arms default a (held_are_within (Union switch arms default) h)

-- The octets of a node's values begin with the gap to its lead: a further gap to it in front of them is empty.
use Rattle.std.proofs.Common.{ℕ, zero, suc, ◌<◌, List, [], ◌∷◌, arith}
use Rattle.std.specs.List.{AllByRecursion}
use Rattle.type_graph.specs.declared.width.Width.{Width}
use Rattle.type_graph.specs.declared.width.Width.TheVariants.{One, Two, Four, Eight}
use Rattle.type_graph.specs.declared.node.Node.{Node}
use Rattle.type_graph.specs.declared.node.Node.TheVariants.{Integer, Octet, Char, Boolean, Enum, Text, Seq, Array, Struct, Union, Frame}
use Rattle.type_graph.specs.Words.{Format}
use Rattle.type_graph.specs.Relation.{Relation, Then, Many, Chain}
use Rattle.type_graph.specs.Comparison.{Anywhere, Same}
use Rattle.type_graph.specs.Atoms.{Gap, GapBeforeFirst}
use Rattle.type_graph.specs.Value.{node_at}
use Rattle.type_graph.specs.Encoding.{NodeMeans, Means}
use Rattle.type_graph.specs.GraphRules.{held_by, IsShallow}
use Rattle.type_graph.specs.Walks.{first_lead, lead_by, lead_within}
use Rattle.type_graph.proofs.RelationLaws.{same_refl, same_sym, same_trans, then_same_anywhere, then_assoc}
use Rattle.type_graph.proofs.WordLaws.{all_weaken}
use Rattle.type_graph.proofs.AtomLaws.{gap_gap}
use Rattle.type_graph.proofs.Openings.{gap_one_then, whole_means, enum_means, text_means, seq_means, array_means, struct_means, frame_means, union_means}

-- a gap to the width in front changes nothing
pub record Leads (format : Format) (w : Width) (R : Relation) : Type 0 where
  pub absorbs : Same Anywhere (Then (Gap format w) R) R

-- an array has an element
abbrev pub IsFilled : Node → Type 0
IsFilled (Array elem n) = 0 < n
IsFilled node = Unit {0}

-- what is the same leads with the same
pub leads_same : {format : Format} {w : Width} {R Q : Relation} → Same Anywhere R Q → Leads format w R
    → Leads format w Q
leads_same e l = record { absorbs = same_trans (then_same_anywhere same_refl (same_sym e)) (same_trans l.absorbs e) }

-- a gap behind the same gap is empty
gap_twice : {format : Format} (w : Width) → Same Anywhere (Then (Gap format w) (Gap format w)) (Gap format w)
gap_twice One = gap_gap One One
gap_twice Two = gap_gap Two Two
gap_twice Four = gap_gap Four Four
gap_twice Eight = gap_gap Eight Eight

-- a gap leads with itself
pub gap_leads : {format : Format} {w : Width} {R : Relation} → Leads format w (Then (Gap format w) R)
gap_leads {w = w} = record { absorbs = same_trans (same_sym then_assoc) (then_same_anywhere (gap_twice w) same_refl) }

-- what begins with something leads as that does
pub then_leads : {format : Format} {w : Width} {R Q : Relation} → Leads format w R → Leads format w (Then R Q)
then_leads l = record { absorbs = same_trans (same_sym then_assoc) (then_same_anywhere l.absorbs same_refl) }

-- everything leads with one octet
pub one_leads : {format : Format} {R : Relation} → Leads format One R
one_leads {format} = record { absorbs = gap_one_then [] format }

-- the gap before the first of some elements that lead with it
pub first_leads : {format : Format} {w : Width} {R : Relation} (n : ℕ) → Leads format w R
    → Same Anywhere (GapBeforeFirst format w n (Many n R)) (Many n R)
first_leads zero l = same_refl
first_leads {format} {w} {R} (suc n) l = (then_leads {Q = Many n R} l).absorbs

module _ (graph : List Node) (format : Format) (depth : ℕ) where
  -- a chain leads with its first piece
  chain_leads : (lead : ℕ → Width) (numbers : List ℕ)
      → AllByRecursion (λ m. Leads format (lead m) (Means graph format depth m)) numbers
      → Leads format (first_lead lead numbers) (Chain (Means graph format depth) numbers)
  chain_leads lead [] a = one_leads
  chain_leads lead (number ∷ numbers) a = then_leads a.0

  -- one or more of a piece lead as it does
  many_leads : (w : Width) (n : ℕ) (R : Relation) → 0 < n → Leads format w R → Leads format w (Many n R)
  many_leads w zero R h l = absurd (omega arith)
  many_leads w (suc n) R h l = then_leads l

  -- a node's values lead as it says where those of the nodes that it holds do
  pub node_leads : (lead : ℕ → Width) (node : Node) → IsFilled node
      → AllByRecursion (λ m. Leads format (lead m) (Means graph format depth m)) (held_by node)
      → Leads format (lead_by lead graph node) (NodeMeans graph format depth node)
  node_leads lead (Integer w signed) f a = leads_same (same_sym (whole_means graph format depth w signed)) gap_leads
  node_leads lead Octet f a = one_leads
  node_leads lead Char f a = one_leads
  node_leads lead Boolean f a = one_leads
  node_leads lead (Enum n) f a = leads_same (same_sym (enum_means graph format depth n)) gap_leads
  node_leads lead (Text bound) f a = leads_same (same_sym (text_means graph format depth bound)) gap_leads
  node_leads lead (Seq elem bound) f a = leads_same (same_sym (seq_means graph format depth elem bound)) gap_leads
  node_leads lead (Array elem n) f a =
      leads_same (same_sym (array_means graph format depth elem n))
      (many_leads (lead elem) n (Means graph format depth elem) f a.0)
  node_leads lead (Struct members) f a =
      leads_same (same_sym (struct_means graph format depth members)) (chain_leads lead members a)
  node_leads lead (Frame members) f a =
      leads_same (same_sym (frame_means graph format depth members)) (chain_leads lead members a)
  node_leads lead (Union switch arms default) f a =
      leads_same (same_sym (union_means graph format depth switch arms default)) gap_leads

  -- the values of a shallow node lead with its lead
  pub lead_leads : ((number : ℕ) → IsFilled (node_at graph number)) → (levels number : ℕ)
      → IsShallow levels graph number → Leads format (lead_within levels graph number) (Means graph format depth number)
  unfolding IsShallow lead_within
  lead_leads filled zero number h = absurd h
  lead_leads filled (suc levels) number h =
      node_leads (lead_within levels graph) (node_at graph number) (filled number)
      (all_weaken (IsShallow levels graph)
      (λ m. Leads format (lead_within levels graph m) (Means graph format depth m)) (held_by (node_at graph number))
      (λ m s. lead_leads filled levels m s) h)

-- What a node means is what its leaves mean, one behind the other; and words of one width have one gap before them all.
use Rattle.std.proofs.Common.{◌≡◌, ℕ, zero, suc, ◌+◌, ◌%◌, ◌≤◌, List, [], ◌∷◌, length, replicate, sym, ap, ◌∙◌, subst, arith}
use Rattle.std.specs.List.{AllByRecursion, flat_map}
use Rattle.std.proofs.lemmas.List.{nil_from_length}
use Rattle.type_graph.specs.declared.width.Width.{Width}
use Rattle.type_graph.specs.declared.width.Width.TheVariants.{One, Two, Four, Eight}
use Rattle.type_graph.specs.declared.node.Node.{Node}
use Rattle.type_graph.specs.declared.node.Node.TheVariants.{Integer, Octet, Char, Array, Struct, Frame}
use Rattle.type_graph.specs.Words.{octets_in, pad, IsPadding, Format}
use Rattle.type_graph.specs.Relation.{Relation, Nothing, Then, Many, Chain}
use Rattle.type_graph.specs.Comparison.{Positions, Anywhere, Same, Ends}
use Rattle.type_graph.specs.Atoms.{Gap, AnyWord}
use Rattle.type_graph.specs.Value.{node_at}
use Rattle.type_graph.specs.Encoding.{NodeMeans, Means}
use Rattle.type_graph.specs.GraphRules.{held_by, IsShallow, IsGraph}
use Rattle.type_graph.specs.Leaves.{leaves_by, leaves_within, leaves_of, IsWordOf, IsUniform}
use Rattle.type_graph.proofs.WordLaws.{all_weaken, padding_none}
use Rattle.type_graph.proofs.RelationLaws.{same_refl, same_sym, same_trans, ends_anywhere, then_ends, then_same, then_same_anywhere, then_assoc, nothing_then, many_same, chain_add, chain_one, chain_many}
use Rattle.type_graph.proofs.AtomLaws.{gap_ends, held_word_long}
use Rattle.type_graph.proofs.Openings.{whole_means, octet_means_gap, char_means_gap, array_means, struct_means, frame_means}
use Rattle.type_graph.proofs.HeldEach.{all_repeated, shallow_all}

-- ---- words one behind the other

-- multiples of the width
abbrev Multiples : Width → Positions
Multiples w p = p % octets_in w ≡ 0

-- at a multiple of the width no gap is needed
pad_none : (p : ℕ) (w : Width) → p % octets_in w ≡ 0 → pad p (octets_in w) ≡ 0
pad_none p One h = omega arith
pad_none p Two h = omega arith
pad_none p Four h = omega arith
pad_none p Eight h = omega arith

-- and the next word ends at one
next_multiple : (p : ℕ) (w : Width) → p % octets_in w ≡ 0 → (p + octets_in w) % octets_in w ≡ 0
next_multiple p One h = omega arith
next_multiple p Two h = omega arith
next_multiple p Four h = omega arith
next_multiple p Eight h = omega arith

module _ (format : Format) (w : Width) where
  -- the gap there is empty
  no_gap : Same (Multiples w) (Gap format w) Nothing
  no_gap = record {
    to = λ p t x s r. record { no_tape = r.no_tape; no_octets = nil_from_length x (r.gap.long ∙ pad_none p w s) };
    from = λ p t x s r. record {
      no_tape = r.no_tape;
      gap = record {
        long = ap length r.no_octets ∙ sym (pad_none p w s);
        filled =
            subst (IsPadding format.padding) (sym r.no_octets) (padding_none format.padding);
      };
    };
  }

  -- a word alone
  abbrev Word : Relation
  Word = AnyWord format w

  -- a word behind its gap
  abbrev GapWord : Relation
  GapWord = Then (Gap format w) (AnyWord format w)

  -- a word ends where the next can stand
  word_ends : Ends (Multiples w) (Multiples w) Word
  word_ends = record {
    at = λ p t x s r. subst (λ n. (p + n) % octets_in w ≡ 0) (sym (held_word_long p t x r))
        (next_multiple p w s);
  }

  -- a word behind its gap, which is empty
  gap_word_same : Same (Multiples w) GapWord Word
  gap_word_same = same_trans (then_same no_gap ends_anywhere same_refl) nothing_then

  -- a gap ends where the word can stand
  gap_ends_there : Ends (Multiples w) (Multiples w) (Gap format w)
  gap_ends_there = record { at = λ p t x s r. gap_ends.at p t x tt r }

  -- so all gaps but the first are empty
  pub words_same : (n : ℕ) → 1 ≤ n → Same Anywhere (Many n GapWord) (Then (Gap format w) (Many n Word))
  words_same zero some = absurd (omega arith)
  words_same (suc n) some =
      let more : Same (Multiples w) (Many n GapWord) (Many n Word) =
      many_same n gap_word_same (then_ends gap_ends_there word_ends) in
      same_trans then_assoc (then_same same_refl gap_ends (then_same same_refl word_ends more))

module _ (graph : List Node) (format : Format) (depth : ℕ) where
  -- what the nodes mean one behind the other
  abbrev Leaves : List Node → Relation
  Leaves = Chain (NodeMeans graph format depth)

  -- a node means what these leaves mean
  abbrev MeansLeaves : (ℕ → List Node) → ℕ → Type 0
  MeansLeaves leaves number = Same Anywhere (Means graph format depth number) (Leaves (leaves number))

  -- parts one behind the other
  parts_mean : (leaves : ℕ → List Node) (numbers : List ℕ) → AllByRecursion (MeansLeaves leaves) numbers
      → Same Anywhere (Chain (Means graph format depth) numbers) (Leaves (flat_map leaves numbers))
  parts_mean leaves [] a = same_refl
  parts_mean leaves (number ∷ numbers) a =
      same_trans (then_same_anywhere a.0 (parts_mean leaves numbers a.1))
      (same_sym (chain_add (NodeMeans graph format depth) (leaves number) (flat_map leaves numbers)))

  -- a node, where it is known of the nodes that it holds
  node_means : (leaves : ℕ → List Node) (node : Node) → AllByRecursion (MeansLeaves leaves) (held_by node)
      → Same Anywhere (NodeMeans graph format depth node) (Leaves (leaves_by leaves node))
  node_means leaves (Array elem n) a =
      same_trans (array_means graph format depth elem n)
      (same_trans (same_sym (chain_many (Means graph format depth) n elem))
      (parts_mean leaves (replicate n elem) (all_repeated (MeansLeaves leaves) n elem a.0)))
  node_means leaves (Struct members) a =
      same_trans (struct_means graph format depth members) (parts_mean leaves members a)
  node_means leaves (Frame members) a =
      same_trans (frame_means graph format depth members) (parts_mean leaves members a)
  node_means leaves node a = same_sym (chain_one (NodeMeans graph format depth) node)

  -- a shallow node
  pub leaves_mean : (levels number : ℕ) → IsShallow levels graph number
      → MeansLeaves (leaves_within levels graph) number
  unfolding IsShallow leaves_within
  leaves_mean zero number h = absurd h
  leaves_mean (suc levels) number h =
      node_means (leaves_within levels graph) (node_at graph number)
      (all_weaken (IsShallow levels graph) (MeansLeaves (leaves_within levels graph)) (held_by (node_at graph number))
      (λ m s. leaves_mean levels m s) h)

  -- a node whose values are words
  word_means : (w : Width) (node : Node) → IsWordOf w node
      → Same Anywhere (NodeMeans graph format depth node) (GapWord format w)
  word_means w (Integer v signed) a =
      subst (λ (u : Width). Same Anywhere (NodeMeans graph format depth (Integer v signed)) (GapWord format u)) a.width
      (whole_means graph format depth v signed)
  word_means w Octet a = subst (λ (u : Width). Same Anywhere (NodeMeans graph format depth Octet) (GapWord format u))
      a.width (octet_means_gap graph format depth)
  word_means w Char a = subst (λ (u : Width). Same Anywhere (NodeMeans graph format depth Char) (GapWord format u))
      a.width (char_means_gap graph format depth)
  word_means w node a = absurd a.plain

  -- leaves that are words
  leaves_words : (w : Width) (leaves : List Node) → AllByRecursion (IsWordOf w) leaves
      → Same Anywhere (Leaves leaves) (Many (length leaves) (GapWord format w))
  leaves_words w [] a = same_refl
  leaves_words w (leaf ∷ leaves) a = then_same_anywhere (word_means w leaf a.0) (leaves_words w leaves a.1)

  -- a uniform node of a graph: the gap to its width, and so many words
  pub uniform_means : IsGraph graph → (w : Width) (n number : ℕ) → IsUniform graph w n number
      → Same Anywhere (Means graph format depth number) (Then (Gap format w) (Many n (AnyWord format w)))
  uniform_means rules w n number u =
      let made = leaves_mean 64 number (shallow_all graph rules number) in
      let words = subst (λ (k : ℕ). Same Anywhere (Leaves (leaves_of graph number)) (Many k (GapWord format w))) u.long
      (leaves_words w (leaves_of graph number) u.words) in
      same_trans made (same_trans words (words_same format w n u.some))

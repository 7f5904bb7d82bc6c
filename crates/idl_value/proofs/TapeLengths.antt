-- A value that isn't a frame's takes an octet of the tape at least, so so many values take so many.
use Rattle.std.proofs.Common.{◌≡◌, ℕ, zero, suc, pos, ◌<◌, ◌≤◌, List, ◌∷◌, [], ◌++◌, length, replicate, Option, Some, None, slice_get, refl, sym, ap, subst, length-append, arith}
use Rattle.std.specs.Prelude.{IsSomeAnd}
use Rattle.std.proofs.lemmas.Option.{slice_get_within, get_or_from_slice_get}
use Rattle.type_graph.specs.declared.width.Width.{Width}
use Rattle.type_graph.specs.declared.width.Width.TheVariants.{One, Two, Four, Eight}
use Rattle.type_graph.specs.declared.width.Order.TheVariants.{Big}
use Rattle.type_graph.specs.declared.node.Node.{Node}
use Rattle.type_graph.specs.declared.node.Node.TheVariants.{Octet, Text, Seq, Array, Struct, Union, Frame}
use Rattle.type_graph.specs.Words.{octets_in, word}
use Rattle.type_graph.specs.Value.{Tree, Trees, Number, Bytes, Items, Choice, NoTree, AndTree, count, node_at, number_width, arm_of, Fits, FitAll, tape_of, tapes_of}
use Rattle.type_graph.specs.GraphRules.{IsNode, IsNoFrame, IsPart, IsGraph}
use Rattle.type_graph.proofs.WordLaws.{length-word}

some_octets : (w : Width) → 1 ≤ octets_in w
some_octets One = omega arith
some_octets Two = omega arith
some_octets Four = omega arith
some_octets Eight = omega arith

module _ (graph : List Node) (rules : IsGraph graph) where
  -- a part is a node that keeps its rules and is no frame
  abbrev IsLong : Node → Type 0
  IsLong node = IsNode graph node × IsNoFrame node

  part_is_long : (number : ℕ) → IsPart graph number → IsLong (node_at graph number)
  part_is_long number part = found (slice_get graph number) refl part
    where
      found : (at : Option Node) → slice_get graph number ≡ at → IsSomeAnd at IsNoFrame → IsLong (node_at graph number)
      found None e h = absurd h
      found (Some node) e h =
          let is : node_at graph number ≡ node = get_or_from_slice_get graph number node Octet e in
          (rules.nodes number Octet (slice_get_within graph number node e), subst IsNoFrame (sym is) h)

  -- what begins with a word has an octet
  word_first : (w : Width) (front rest : List ℕ) → length front ≡ octets_in w → 1 ≤ length (front ++ rest)
  word_first w front rest long =
      let some = some_octets w in
      omega (arith, some, length-append front rest)

  mutual
    takes_octet : (node : Node) (value : Tree) (depth : ℕ) → IsLong node → Fits graph node value depth
        → 1 ≤ length (tape_of graph node value)
    takes_octet node (Number n) depth h fits = let some = some_octets (number_width node) in
        omega (arith, some, length-word Big (number_width node) n)
    takes_octet (Text bound) (Bytes text) depth h fits =
        word_first Four (word Big Four (pos (length text))) text (length-word Big Four (pos (length text)))
    takes_octet (Seq elem bound) (Items values) depth h fits =
        word_first Four (word Big Four (pos (count values))) (tapes_of graph (replicate (count values) elem) values)
        (length-word Big Four (pos (count values)))
    takes_octet (Array elem zero) (Items values) depth h fits = absurd (omega (arith, h.0.1))
    takes_octet (Array elem (suc n)) (Items values) depth h fits =
        take_octet elem (replicate n elem) values depth h.0.0 fits
    takes_octet (Struct []) (Items values) depth h fits = absurd (omega (arith, h.0.0))
    takes_octet (Struct (number ∷ numbers)) (Items values) depth h fits =
        take_octet number numbers values depth (h.0.1.parts 0 0 (omega arith)) fits
    takes_octet (Frame members) (Items values) depth h fits = absurd h.1
    takes_octet (Union switch arms default) (Choice a values) depth h fits =
        let w = number_width (node_at graph switch) in
        word_first w (word Big w a) (tapes_of graph (arm_of arms default a) values) (length-word Big w a)
    takes_octet node value depth h fits = absurd (assumption fits)

    -- the first of several does
    take_octet : (number : ℕ) (numbers : List ℕ) (values : Trees) (depth : ℕ) → IsPart graph number
        → FitAll graph (number ∷ numbers) values depth → 1 ≤ length (tapes_of graph (number ∷ numbers) values)
    take_octet number numbers NoTree depth part fits = absurd fits
    take_octet number numbers (AndTree value more) depth part fits =
        let first = takes_octet (node_at graph number) value depth (part_is_long number part) fits.0 in
        omega (arith, first, length-append (tape_of graph (node_at graph number) value) (tapes_of graph numbers more))

  -- so many elements take as many octets
  take_octets : (n elem depth : ℕ) (values : Trees) → IsPart graph elem → FitAll graph (replicate n elem) values depth
      → n ≤ length (tapes_of graph (replicate n elem) values)
  take_octets zero elem depth values part fits = omega arith
  take_octets (suc n) elem depth NoTree part fits = absurd fits
  take_octets (suc n) elem depth (AndTree value more) part fits =
      let first = takes_octet (node_at graph elem) value depth (part_is_long elem part) fits.0 in
      let rest = take_octets n elem depth more part fits.1 in
      omega (
        arith,
        first,
        rest,
        length-append (tape_of graph (node_at graph elem) value)
            (tapes_of graph (replicate n elem) more),
      )

  -- more elements than there are octets aren't there
  pub too_few_octets : (n elem depth : ℕ) (tape : List ℕ) → IsPart graph elem → length tape < n
      → (values : Trees) (rest : List ℕ) → FitAll graph (replicate n elem) values depth
      × (tape ≡ tapes_of graph (replicate n elem) values ++ rest) → ⊥
  too_few_octets n elem depth tape part short values rest b =
      let long = take_octets n elem depth values part b.0 in
      absurd (omega (
        arith,
        long,
        ap (λ l. length l) b.1,
        length-append (tapes_of graph (replicate n elem) values)
            rest,
      ))

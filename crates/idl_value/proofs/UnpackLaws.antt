-- What stands at the front of a tape, where that is known of its parts.
use Rattle.std.proofs.Common.{◌≡◌, ℕ, zero, suc, ℤ, pos, ◌-◌, ◌^◌, ◌<◌, List, ◌∷◌, [], ◌++◌, replicate, Option, refl, sym, ap, ◌∙◌, subst, append_assoc}
use Rattle.std.proofs.lemmas.List.{append-nil}
use Rattle.type_graph.specs.declared.width.Width.TheVariants.{Four}
use Rattle.type_graph.specs.declared.width.Order.TheVariants.{Big}
use Rattle.type_graph.specs.declared.node.Node.{Node}
use Rattle.type_graph.specs.declared.node.Node.TheVariants.{Seq, Array, Struct, Union, Frame}
use Rattle.type_graph.specs.Words.{word}
use Rattle.type_graph.specs.Value.{Tree, Trees, Number, Bytes, Items, Choice, NoTree, AndTree, count, node_at, IsNumber, IsNumeric, number_width, arm_of, Fits, FitAll, tape_of, tapes_of, IsCount}
use Rattle.type_graph.specs.GraphRules.{IsGraph}
use Rattle.type_graph.proofs.Openings.{numeric_alone}
use Rattle.type_graph.proofs.OneTape.{FitsWord, graph_fits_words, cut_same, number_same, one_front}
use Rattle.type_graph.proofs.WordLaws.{length-word, plain_word_same}
use Rattle.idl_value.specs.declared.value.Value.{Value}
use Rattle.idl_value.specs.declared.fault.ValueFault.{ValueFault}
use Rattle.idl_value.specs.declared.fault.ValueFault.TheVariants.{NotOfType, NotATape, NoMemory}
use Rattle.idl_value.specs.Refusal.{RefusesTape}
use Rattle.idl_value.specs.View.{tree_of, trees_of}
use Rattle.idl_value.specs.inner.Unpacking.{IsItems, Begins, BeginsWithNone, BeginsAll, BeginsAllWithNone}

-- the trees of values, and then others
abbrev pub joined : List Value → Trees → Trees
joined [] others = others
joined (value ∷ more) others = AndTree (tree_of value) (joined more others)

joined-push : (values : List Value) (value : Value) (others : Trees)
    → joined (values ++ value ∷ []) others ≡ joined values (AndTree (tree_of value) others)
joined-push [] value others = refl
joined-push (first ∷ more) value others = ap (AndTree (tree_of first)) (joined-push more value others)

pub joined-none : (values : List Value) → joined values NoTree ≡ trees_of values
joined-none [] = refl
joined-none (value ∷ more) = ap (AndTree (tree_of value)) (joined-none more)

-- one value is there for each of so many copies
fit_count : (graph : List Node) (n elem depth : ℕ) (values : Trees) → FitAll graph (replicate n elem) values depth
    → count values ≡ n
fit_count graph zero elem depth NoTree h = refl
fit_count graph zero elem depth (AndTree value more) h = absurd h
fit_count graph (suc n) elem depth NoTree h = absurd h
fit_count graph (suc n) elem depth (AndTree value more) h = ap suc (fit_count graph n elem depth more h.1)

-- numbers of a node whose words begin one list
words_same : (node : Node) (m n : ℤ) (s r : List ℕ) → FitsWord node → IsNumber node m → IsNumber node n
    → word Big (number_width node) m ++ s ≡ word Big (number_width node) n ++ r → (m ≡ n) × (s ≡ r)
words_same node m n s r f hm hn e =
    let w = number_width node in
    let cut = cut_same (word Big w m) (word Big w n) s r (length-word Big w m ∙ sym (length-word Big w n)) e in
    (number_same node m n f hm hn cut.0, cut.1)

-- counts whose words begin one list
counts_same : (m n : ℕ) (s r : List ℕ) → m < 2 ^ 32 → n < 2 ^ 32
    → word Big Four (pos m) ++ s ≡ word Big Four (pos n) ++ r → (m ≡ n) × (s ≡ r)
counts_same m n s r hm hn e =
    let cut = cut_same (word Big Four (pos m)) (word Big Four (pos n)) s r refl e in
    (plain_word_same Big Four m n hm hn cut.0, cut.1)

module _ (graph : List Node) where
  -- then no value has the whole as its tape
  pub no_whole_tape : (node : Node) (depth : ℕ) (tape : List ℕ) → BeginsWithNone graph node depth tape → (value : Tree)
      → Fits graph node value depth → tape_of graph node value ≡ tape → ⊥
  no_whole_tape node depth tape none value fits e =
      none value [] (fits, sym e ∙ sym (append-nil (tape_of graph node value)))

  -- where no number of the node is
  pub no_number : (node : Node) (depth : ℕ) (tape : List ℕ) → IsNumeric node
      → ((n : ℤ) (rest : List ℕ) → IsNumber node n → tape ≡ word Big (number_width node) n ++ rest → ⊥)
      → BeginsWithNone graph node depth tape
  no_number node depth tape numeric none (Number n) rest b = none n rest b.0 b.1
  no_number node depth tape numeric none (Bytes text) rest b = numeric_alone graph node (Bytes text) depth numeric b.0
  no_number node depth tape numeric none (Items values) rest b =
      numeric_alone graph node (Items values) depth numeric b.0
  no_number node depth tape numeric none (Choice a values) rest b =
      numeric_alone graph node (Choice a values) depth numeric b.0

  -- where no discriminator is
  pub no_switch : (switch : ℕ) (arms : List (ℤ × ℕ)) (default : Option ℕ) (depth : ℕ) (tape : List ℕ)
      → ((n : ℤ) (rest : List ℕ) → IsNumber (node_at graph switch) n
      → tape ≡ word Big (number_width (node_at graph switch)) n ++ rest → ⊥)
      → BeginsWithNone graph (Union switch arms default) depth tape
  no_switch switch arms default depth tape none (Choice a values) rest b =
      none a (tapes_of graph (arm_of arms default a) values ++ rest) b.0.0
      (b.1 ∙ append_assoc (word Big (number_width (node_at graph switch)) a)
      (tapes_of graph (arm_of arms default a) values) rest)
  no_switch switch arms default depth tape none value rest b = absurd b.0

  -- where no elements or members are
  pub no_items : (node : Node) (numbers : List ℕ) (depth : ℕ) (tape : List ℕ)
      → ((values : Trees) → Fits graph node (Items values) depth → FitAll graph numbers values depth
      × (tape_of graph node (Items values) ≡ tapes_of graph numbers values))
      → ((value : Tree) → Fits graph node value depth → (values : Trees) × (value ≡ Items values))
      → BeginsAllWithNone graph numbers depth tape → BeginsWithNone graph node depth tape
  no_items node numbers depth tape opened only none value rest b =
      let is = only value b.0 in
      let at_items = subst (λ v. Begins graph node depth tape v rest) is.1 b in
      let parts = opened is.0 at_items.0 in
      none is.0 rest (parts.0, at_items.1 ∙ ap (λ l. l ++ rest) parts.1)

  -- elements or members that are there
  pub items_begin : (node : Node) (numbers : List ℕ) (depth : ℕ) (tape : List ℕ) (value : Tree) (rest : List ℕ)
      → ((values : Trees) → FitAll graph numbers values depth → Fits graph node (Items values) depth
      × (tape_of graph node (Items values) ≡ tapes_of graph numbers values))
      → IsItems graph numbers depth tape value rest → Begins graph node depth tape value rest
  items_begin node numbers depth tape value rest closed is =
      let parts = closed is.0 is.2.0 in
      subst (λ v. Begins graph node depth tape v rest) (sym is.1) (parts.0, is.2.1 ∙ ap (λ l. l ++ rest) (sym parts.1))

  -- of an array
  pub array_items : (elem n depth : ℕ) (value : Tree) → Fits graph (Array elem n) value depth
      → (values : Trees) × (value ≡ Items values)
  array_items elem n depth (Items values) h = (values, refl)
  array_items elem n depth value h = absurd h

  pub struct_items : (members : List ℕ) (depth : ℕ) (value : Tree) → Fits graph (Struct members) value depth
      → (values : Trees) × (value ≡ Items values)
  struct_items members depth (Items values) h = (values, refl)
  struct_items members depth value h = absurd h

  pub frame_items : (members : List ℕ) (depth : ℕ) (value : Tree) → Fits graph (Frame members) value depth
      → (values : Trees) × (value ≡ Items values)
  frame_items members depth (Items values) h = (values, refl)
  frame_items members depth value h = absurd h

  -- a count, and so many elements
  pub sequence_begins : (elem bound depth n : ℕ) (values : List Value) (tape rest behind : List ℕ) → 0 < depth
      → IsCount bound n → tape ≡ word Big Four (pos n) ++ rest
      → BeginsAll graph (replicate n elem) (depth - 1) rest (trees_of values) behind
      → Begins graph (Seq elem bound) depth tape (Items (trees_of values)) behind
  sequence_begins elem bound depth n values tape rest behind deep counted cut parts =
      let trees = trees_of values in
      let Has : ℕ → Type 0 = λ k. IsCount bound k × FitAll graph (replicate k elem) trees (depth - 1)
      × (tape ≡ (word Big Four (pos k) ++ tapes_of graph (replicate k elem) trees) ++ behind) in
      let has : Has (count trees) =
      subst Has (sym (fit_count graph n elem (depth - 1) trees parts.0)) (
        counted,
        parts.0,
        cut ∙ ap (λ l. word Big Four (pos n) ++ l) parts.1
            ∙ sym (append_assoc (word Big Four (pos n)) (tapes_of graph (replicate n elem) trees) behind),
      ) in
      ((deep, has.0, has.1), has.2)

  -- where there aren't so many
  pub no_sequence_begins : (elem bound depth n : ℕ) (tape rest : List ℕ) → n < 2 ^ 32
      → tape ≡ word Big Four (pos n) ++ rest
      → BeginsAllWithNone graph (replicate n elem) (depth - 1) rest → BeginsWithNone graph (Seq elem bound) depth tape
  no_sequence_begins elem bound depth n tape rest small cut none (Items values) behind b =
      let tapes = tapes_of graph (replicate (count values) elem) values in
      let same = counts_same (count values) n (tapes ++ behind) rest b.0.1.short small
      (sym (append_assoc (word Big Four (pos (count values))) tapes behind) ∙ sym b.1 ∙ cut) in
      let parts = subst (λ k. FitAll graph (replicate k elem) values (depth - 1)
      × (tapes_of graph (replicate k elem) values ++ behind ≡ rest)) same.0 (b.0.2, same.1) in
      none values behind (parts.0, sym parts.1)
  no_sequence_begins elem bound depth n tape rest small cut none value behind b = absurd b.0

  -- a discriminator, and the member that it chooses
  pub union_begins : (switch : ℕ) (arms : List (ℤ × ℕ)) (default : Option ℕ) (a : ℤ) (number depth : ℕ) (value : Tree)
      (tape rest behind : List ℕ)
      → IsNumber (node_at graph switch) a → tape ≡ word Big (number_width (node_at graph switch)) a ++ rest
      → number ∷ [] ≡ arm_of arms default a
      → Begins graph (node_at graph number) depth rest value behind
      → Begins graph (Union switch arms default) depth tape (Choice a (AndTree value NoTree)) behind
  union_begins switch arms default a number depth value tape rest behind is_number cut chosen b =
      let front = word Big (number_width (node_at graph switch)) a in
      let own = tape_of graph (node_at graph number) value in
      let Has : List ℕ → Type 0 = λ numbers. FitAll graph numbers (AndTree value NoTree) depth
      × (tape ≡ (front ++ tapes_of graph numbers (AndTree value NoTree)) ++ behind) in
      let has : Has (arm_of arms default a) =
      subst Has chosen (
        (b.0, tt),
        cut ∙ ap (λ l. front ++ l) (b.1 ∙ ap (λ l. l ++ behind) (sym (append-nil own)))
            ∙ sym (append_assoc front (own ++ []) behind),
      ) in
      ((is_number, has.0), has.1)

  module _ (rules : IsGraph graph) where
    -- where the member that is chosen isn't there
    pub no_union_begins : (switch : ℕ) (arms : List (ℤ × ℕ)) (default : Option ℕ) (a : ℤ) (number depth : ℕ)
        (tape rest : List ℕ)
        → IsNumber (node_at graph switch) a → tape ≡ word Big (number_width (node_at graph switch)) a ++ rest
        → number ∷ [] ≡ arm_of arms default a
        → BeginsWithNone graph (node_at graph number) depth rest
        → BeginsWithNone graph (Union switch arms default) depth tape
    no_union_begins switch arms default a number depth tape rest is_number cut chosen none (Choice b values) behind
        begins =
        let node = node_at graph switch in
        let front = word Big (number_width node) b in
        let tapes = tapes_of graph (arm_of arms default b) values in
        let same = words_same node b a (tapes ++ behind) rest (graph_fits_words graph rules switch) begins.0.0 is_number
        (sym (append_assoc front tapes behind) ∙ sym begins.1 ∙ cut) in
        let Has : List ℕ → Type 0 = λ numbers. FitAll graph numbers values depth
        × (tapes_of graph numbers values ++ behind ≡ rest) in
        let at_a = subst (λ c. Has (arm_of arms default c)) same.0 (begins.0.1, same.1) in
        one_member number depth rest values behind none (subst Has (sym chosen) at_a)
      where
        one_member : (number depth : ℕ) (rest : List ℕ) (values : Trees) (behind : List ℕ)
            → BeginsWithNone graph (node_at graph number) depth rest → FitAll graph (number ∷ []) values depth
            × (tapes_of graph (number ∷ []) values ++ behind ≡ rest) → ⊥
        one_member number depth rest NoTree behind none h = h.0
        one_member number depth rest (AndTree value more) behind none h =
            none value (tapes_of graph [] more ++ behind)
            (h.0.0, sym h.1 ∙ append_assoc (tape_of graph (node_at graph number) value) (tapes_of graph [] more) behind)
    no_union_begins switch arms default a number depth tape rest is_number cut chosen none value behind begins =
        absurd begins.0

    -- one value more: what follows it completes all
    pub begins_next : (parts more : List ℕ) (number depth : ℕ) (values : List Value) (value : Value)
        (tape rest behind : List ℕ)
        → ((others : Trees) (end : List ℕ) → BeginsAll graph (number ∷ more) depth rest others end
        → BeginsAll graph parts depth tape (joined values others) end)
        → Begins graph (node_at graph number) depth rest (tree_of value) behind
        → (others : Trees) (end : List ℕ) → BeginsAll graph more depth behind others end
        → BeginsAll graph parts depth tape (joined (values ++ value ∷ []) others) end
    begins_next parts more number depth values value tape rest behind before first others end after =
        let own = tape_of graph (node_at graph number) (tree_of value) in
        subst (λ trees. BeginsAll graph parts depth tape trees end) (sym (joined-push values value others))
        (before (AndTree (tree_of value) others) end (
          (first.0, after.0),
          first.1 ∙ ap (λ l. own ++ l) after.1
              ∙ sym (append_assoc own (tapes_of graph more others) end),
        ))

    -- and of all there is only what follows it
    pub only_next : (parts more : List ℕ) (number depth : ℕ) (value : Tree) (tape rest behind : List ℕ)
        → ((values : Trees) (end : List ℕ) → BeginsAll graph parts depth tape values end
        → (others : Trees) × BeginsAll graph (number ∷ more) depth rest others end)
        → Begins graph (node_at graph number) depth rest value behind
        → (values : Trees) (end : List ℕ) → BeginsAll graph parts depth tape values end
        → (others : Trees) × BeginsAll graph more depth behind others end
    only_next parts more number depth value tape rest behind before first values end all =
        let found = before values end all in
        next found.0 found.1
      where
        next : (others : Trees) → BeginsAll graph (number ∷ more) depth rest others end
            → (others : Trees) × BeginsAll graph more depth behind others end
        next NoTree b = absurd b.0
        next (AndTree other others) b =
            let node = node_at graph number in
            let tapes = tapes_of graph more others in
            let same = one_front graph (graph_fits_words graph rules) node value other depth depth behind (tapes ++ end)
            (graph_fits_words graph rules number) first.0 b.0.0
            (sym first.1 ∙ b.1 ∙ append_assoc (tape_of graph node other) tapes end) in
            (others, (b.0.1, same.1))

    -- where the next value isn't there
    pub none_next : (parts more : List ℕ) (number depth : ℕ) (tape rest : List ℕ)
        → ((values : Trees) (end : List ℕ) → BeginsAll graph parts depth tape values end
        → (others : Trees) × BeginsAll graph (number ∷ more) depth rest others end)
        → BeginsWithNone graph (node_at graph number) depth rest → BeginsAllWithNone graph parts depth tape
    none_next parts more number depth tape rest before none values end all =
        let found = before values end all in
        next found.0 found.1
      where
        next : (others : Trees) → BeginsAll graph (number ∷ more) depth rest others end → ⊥
        next NoTree b = b.0
        next (AndTree other others) b =
            none other (tapes_of graph more others ++ end)
            (b.0.0, b.1 ∙ append_assoc (tape_of graph (node_at graph number) other) (tapes_of graph more others) end)

-- a refusal for the same cause
pub refuses_weaker : {P Q : Type 0} (fault : ValueFault) → (P → Q) → RefusesTape fault P → RefusesTape fault Q
refuses_weaker NoMemory f p = tt
refuses_weaker NotATape f p = f p
refuses_weaker NotOfType f p = p

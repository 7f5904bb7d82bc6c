-- A tape is that of one value.
use Rattle.std.proofs.Common.{◌≡◌, ℕ, ◌-◌, ◌^◌, ◌<◌, ◌≤◌, ℤ, pos, negsuc, true, false, List, [], ◌∷◌, ◌++◌, length, replicate, refl, sym, ap, ap₂, ◌∙◌, subst, inl, inr, append_assoc, arith}
use Rattle.std.proofs.lemmas.Bool.{cases_lt}
use Rattle.std.proofs.lemmas.List.{get_or_past}
use Rattle.std.proofs.lemmas.List.Elements.{All-get_or}
use Rattle.type_graph.specs.declared.width.Width.TheVariants.{One, Four}
use Rattle.type_graph.specs.declared.width.Order.{Order}
use Rattle.type_graph.specs.declared.width.Order.TheVariants.{Big}
use Rattle.type_graph.specs.declared.node.Node.{Node}
use Rattle.type_graph.specs.declared.node.Node.TheVariants.{Integer, Octet, Char, Boolean, Enum, Text, Seq, Array, Struct, Union, Frame}
use Rattle.type_graph.specs.Words.{word}
use Rattle.type_graph.specs.Value.{IsNumeric, Tree, Number, Bytes, Items, Choice, Trees, NoTree, AndTree, count, node_at, IsNumber, number_width, arm_of, Fits, FitAll, tape_of, tapes_of, IsBelow}
use Rattle.type_graph.specs.GraphRules.{IsNode, IsGraph}
use Rattle.type_graph.proofs.Openings.{numeric_alone}
use Rattle.type_graph.proofs.WordLaws.{length-word, below_word_same, signed_word_same, plain_word_same}

-- the enumerators of an enumeration fit the word of one
abbrev pub FitsWord : Node → Type 0
FitsWord (Enum limit) = limit ≤ 2 ^ 32
FitsWord node = Unit {0}

-- those of a node that keeps its rules do
pub node_fits_word : (graph : List Node) (node : Node) → IsNode graph node → FitsWord node
node_fits_word graph (Enum limit) h = let most = h.1 in omega (arith, most)
node_fits_word graph node h = tt

-- and so do those of each node of a graph
pub graph_fits_words : (graph : List Node) → IsGraph graph → (number : ℕ) → FitsWord (node_at graph number)
graph_fits_words graph g n =
    elim (cases_lt n (length graph)) [
      | inl lt ↦ node_fits_word graph (node_at graph n) (All-get_or (IsNode graph) graph n Octet lt g.nodes)
      | inr le ↦ subst FitsWord (sym (get_or_past graph n Octet le)) tt
    ]

-- fronts of one length are one
pub cut_same : (a b s r : List ℕ) → length a ≡ length b → a ++ s ≡ b ++ r → (a ≡ b) × (s ≡ r)
cut_same [] [] s r l e = (refl, e)
cut_same [] (y ∷ b) s r l e = absurd (omega arith)
cut_same (x ∷ a) [] s r l e = absurd (omega arith)
cut_same (x ∷ a) (y ∷ b) s r l e =
    let more = cut_same a b s r (omega arith) (ap (λ xs. tail xs) e) in
    (ap₂ (λ h t. h ∷ t) (ap (λ xs. head xs) e) more.0, more.1)
  where
    -- the first of a list
    head : List ℕ → ℕ
    head [] = 0
    head (x ∷ xs) = x

    -- all but the first
    tail : List ℕ → List ℕ
    tail [] = []
    tail (x ∷ xs) = xs

-- what is below a limit is below a higher one
below_weaken : (m k : ℕ) (n : ℤ) → m ≤ k → IsBelow m n → IsBelow k n
below_weaken m k (pos n) h b = omega arith
below_weaken m k (negsuc n) h b = b

-- numbers of a node of one word in some byte order are one
pub number_same_in : (o : Order) (node : Node) (m n : ℤ) → FitsWord node → IsNumber node m → IsNumber node n
    → word o (number_width node) m ≡ word o (number_width node) n → m ≡ n
number_same_in o (Integer w true) m n f hm hn e = signed_word_same o w m n hm hn e
number_same_in o (Integer w false) m n f hm hn e = below_word_same o w m n hm hn e
number_same_in o Octet m n f hm hn e = below_word_same o One m n hm hn e
number_same_in o Char m n f hm hn e = below_word_same o One m n hm hn e
number_same_in o Boolean m n f hm hn e =
    below_word_same o One m n (below_weaken 2 256 m (omega arith) hm) (below_weaken 2 256 n (omega arith) hn) e
number_same_in o (Enum limit) m n f hm hn e =
    below_word_same o Four m n (below_weaken limit (2 ^ 32) m f hm) (below_weaken limit (2 ^ 32) n f hn) e
number_same_in o node m n f hm hn e = absurd hm

-- and so in big order
pub number_same : (node : Node) (m n : ℤ) → FitsWord node → IsNumber node m → IsNumber node n
    → word Big (number_width node) m ≡ word Big (number_width node) n → m ≡ n
number_same node m n f hm hn e = number_same_in Big node m n f hm hn e

-- numbers whose words begin one list
words_same : (node : Node) (m n : ℤ) (s r : List ℕ) → FitsWord node → IsNumber node m → IsNumber node n
    → word Big (number_width node) m ++ s ≡ word Big (number_width node) n ++ r → (m ≡ n) × (s ≡ r)
words_same node m n s r f hm hn e =
    let w = number_width node in
    let cut = cut_same (word Big w m) (word Big w n) s r (length-word Big w m ∙ sym (length-word Big w n)) e in
    (number_same node m n f hm hn cut.0, cut.1)

-- counts whose words begin one list
counts_same : (m n : ℕ) (s r : List ℕ) → m < 2 ^ 32 → n < 2 ^ 32
    → word Big Four (pos m) ++ s ≡ word Big Four (pos n) ++ r → (m ≡ n) × (s ≡ r)
counts_same m n s r hm hn e =
    let cut = cut_same (word Big Four (pos m)) (word Big Four (pos n)) s r refl e in
    (plain_word_same Big Four m n hm hn cut.0, cut.1)

-- a node that has a number as a value is of a kind whose values are numbers
pub number_numeric : (node : Node) (m : ℤ) → IsNumber node m → IsNumeric node
number_numeric (Integer w signed) m h = tt
number_numeric Octet m h = tt
number_numeric Char m h = tt
number_numeric Boolean m h = tt
number_numeric (Enum limit) m h = tt
number_numeric node m h = absurd h

module _ (graph : List Node) (words : (number : ℕ) → FitsWord (node_at graph number)) where
  mutual
    -- values whose tapes begin one list are one
    pub one_front : (node : Node) (v u : Tree) (d e : ℕ) (s r : List ℕ) → FitsWord node → Fits graph node v d
        → Fits graph node u e → tape_of graph node v ++ s ≡ tape_of graph node u ++ r → (v ≡ u) × (s ≡ r)
    one_front node (Number m) (Number n) d e s r f hv hu h =
        let same = words_same node m n s r f hv hu h in
        (ap Number same.0, same.1)
    one_front node (Number m) u d e s r f hv hu h = absurd (numeric_alone graph node u e (number_numeric node m hv) hu)
    one_front (Text bound) (Bytes a) (Bytes b) d e s r f hv hu h =
        let counted = counts_same (length a) (length b) (a ++ s) (b ++ r) (let short = hv.short in omega (arith, short))
        (let short = hu.short in omega (arith, short)) (sym (append_assoc (word Big Four (pos (length a))) a s) ∙ h
        ∙ append_assoc (word Big Four (pos (length b))) b r) in
        let cut = cut_same a b s r counted.0 counted.1 in
        (ap Bytes cut.0, cut.1)
    one_front (Seq elem bound) (Items vs) (Items us) d e s r f hv hu h =
        let tv = tapes_of graph (replicate (count vs) elem) vs in
        let tu = tapes_of graph (replicate (count us) elem) us in
        let counted = counts_same (count vs) (count us) (tv ++ s) (tu ++ r) hv.1.short hu.1.short
        (sym (append_assoc (word Big Four (pos (count vs))) tv s) ∙ h
        ∙ append_assoc (word Big Four (pos (count us))) tu r) in
        let back = sym counted.0 in
        let fits = subst (λ n. FitAll graph (replicate n elem) us (e - 1)) back hu.2 in
        let tapes = subst (λ n. tv ++ s ≡ tapes_of graph (replicate n elem) us ++ r) back counted.1 in
        let more = one_fronts (replicate (count vs) elem) vs us (d - 1) (e - 1) s r hv.2 fits tapes in
        (ap Items more.0, more.1)
    one_front (Array elem n) (Items vs) (Items us) d e s r f hv hu h =
        let more = one_fronts (replicate n elem) vs us d e s r hv hu h in
        (ap Items more.0, more.1)
    one_front (Struct members) (Items vs) (Items us) d e s r f hv hu h =
        let more = one_fronts members vs us d e s r hv hu h in
        (ap Items more.0, more.1)
    one_front (Frame members) (Items vs) (Items us) d e s r f hv hu h =
        let more = one_fronts members vs us d e s r hv hu h in
        (ap Items more.0, more.1)
    one_front (Union switch arms default) (Choice a vs) (Choice b us) d e s r f hv hu h =
        let node = node_at graph switch in
        let tv = tapes_of graph (arm_of arms default a) vs in
        let tu = tapes_of graph (arm_of arms default b) us in
        let chosen = words_same node a b (tv ++ s) (tu ++ r) (words switch) hv.0 hu.0
        (sym (append_assoc (word Big (number_width node) a) tv s) ∙ h
        ∙ append_assoc (word Big (number_width node) b) tu r) in
        let back = sym chosen.0 in
        let fits = subst (λ n. FitAll graph (arm_of arms default n) us e) back hu.1 in
        let tapes = subst (λ n. tv ++ s ≡ tapes_of graph (arm_of arms default n) us ++ r) back chosen.1 in
        let more = one_fronts (arm_of arms default a) vs us d e s r hv.1 fits tapes in
        (ap₂ Choice chosen.0 more.0, more.1)
    one_front node v u d e s r f hv hu h = absurd (assumption (hv, hu))

    -- several values whose tapes begin one list
    one_fronts : (numbers : List ℕ) (vs us : Trees) (d e : ℕ) (s r : List ℕ) → FitAll graph numbers vs d
        → FitAll graph numbers us e → tapes_of graph numbers vs ++ s ≡ tapes_of graph numbers us ++ r
        → (vs ≡ us) × (s ≡ r)
    one_fronts [] NoTree NoTree d e s r hv hu h = (refl, h)
    one_fronts (number ∷ numbers) (AndTree v vs) (AndTree u us) d e s r hv hu h =
        let node = node_at graph number in
        let tv = tapes_of graph numbers vs in
        let tu = tapes_of graph numbers us in
        let first = one_front node v u d e (tv ++ s) (tu ++ r) (words number) hv.0 hu.0
        (sym (append_assoc (tape_of graph node v) tv s) ∙ h ∙ append_assoc (tape_of graph node u) tu r) in
        let more = one_fronts numbers vs us d e s r hv.1 hu.1 first.1 in
        (ap₂ AndTree first.0 more.0, more.1)
    one_fronts numbers vs us d e s r hv hu h = absurd (assumption (hv, hu))

  -- values of one tape are one
  pub one_tape : (node : Node) (v u : Tree) (depth : ℕ) → FitsWord node → Fits graph node v depth
      → Fits graph node u depth → tape_of graph node v ≡ tape_of graph node u → v ≡ u
  one_tape node v u d f hv hu e = (one_front node v u d d [] [] f hv hu (ap (λ l. l ++ []) e)).0

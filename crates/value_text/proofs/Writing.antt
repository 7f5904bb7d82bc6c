-- What loops write, one part behind the other.
use Rattle.std.proofs.Common.{◌≡◌, ℕ, ◌+◌, ◌<◌, ◌≤◌, ◌⊎◌, inl, inr, List, [], ◌∷◌, ◌++◌, length, drop, get_or, replicate, zip, Option, Some, None, slice_get, refl, sym, ap, ap₂, ◌∙◌, append_assoc, drop-cons, add-one, arith}
use Rattle.std.proofs.lemmas.List.{append-nil, drop_all}
use Rattle.std.proofs.lemmas.Option.{slice_get_cases}
use Rattle.std.specs.Prelude.{IfSome, IfNone, option_map}
use Rattle.json.specs.Token.{Token, key}
use Rattle.type_graph.specs.declared.node.Node.{Node}
use Rattle.type_graph.specs.Value.{Trees, NoTree, AndTree, count}
use Rattle.idl_value.specs.declared.value.Value.{Value}
use Rattle.idl_value.specs.View.{tree_of, trees_of}
use Rattle.idl_value.proofs.PackLaws.{trees_of-drop}
use Rattle.value_text.specs.Pieces.{joined, paired}
use Rattle.value_text.specs.Texts.{text_at, texts_of}
use Rattle.value_text.specs.inner.Writing.{member_at, part_at}

-- a part more is written, and the rest still completes all
pub next : (tokens new part rest all : List Token) → tokens ++ (part ++ rest) ≡ all → new ≡ tokens ++ part
    → new ++ rest ≡ all
next tokens new part rest all before added = ap (λ l. l ++ rest) added ∙ append_assoc tokens part rest ∙ before

-- all parts, between brackets
pub closed : (front end : Token) (old tokens rest parts new : List Token)
    → tokens ++ rest ≡ (old ++ front ∷ []) ++ parts → rest ≡ [] → new ≡ tokens ++ end ∷ []
    → new ≡ old ++ front ∷ (parts ++ end ∷ [])
closed front end old tokens rest parts new before none added =
    let whole = sym (append-nil tokens) ∙ ap (λ l. tokens ++ l) (sym none) ∙ before in
    added ∙ ap (λ l. l ++ end ∷ []) whole ∙ append_assoc (old ++ front ∷ []) parts (end ∷ [])
    ∙ append_assoc old (front ∷ []) (parts ++ end ∷ [])

-- what is left of a list: the element at a place and what is behind it, or nothing
dropped : {X : Type 0} (xs : List X) (i : ℕ) →
    ((x : X) × (slice_get xs i ≡ Some x) × (drop i xs ≡ x ∷ drop (i + 1) xs))
    ⊎ ((slice_get xs i ≡ None) × (drop i xs ≡ []) × (drop (i + 1) xs ≡ []))
dropped xs i = elim ((slice_get_cases xs i).1) [
  | inl h ↦ inl (h.0, h.2, drop-cons xs i h.0 h.1 ∙ ap₂ (λ x j. x ∷ drop j xs) h.3 (sym (add-one i)))
  | inr h ↦ inr (h.1, drop_all i xs h.0, drop_all (i + 1) xs (omega arith))
]

-- what is found at a place
pub found : {A B : Type 0} (f : A → B) (xs : List B) (i : ℕ) (r : Option A)
    → IfSome r (λ a. slice_get xs i ≡ Some (f a)) → IfNone r (length xs ≤ i) → option_map f r ≡ slice_get xs i
found f xs i (Some a) some none = sym some
found f xs i None some none = elim ((slice_get_cases xs i).1) [
  | inl h ↦ absurd (omega (arith, h.1, none))
  | inr h ↦ sym h.1
]

module _ (names : List (List (List ℕ))) (graph : List Node) where
  -- the texts of elements of a node
  abbrev pub elements : ℕ → Trees → List (List Token)
  elements elem values = texts_of names graph (replicate (count values) elem) values

  pub elements_next : (elem : ℕ) (values : List Value) (i : ℕ) (value : Value) → i < length values
      → value ≡ get_or values i value
      → joined (elements elem (trees_of (drop i values))) ≡ text_at names graph elem (tree_of value)
      ++ joined (elements elem (trees_of (drop (i + 1) values)))
  elements_next elem values i value lt e =
      ap (λ trees. joined (elements elem trees)) (trees_of-drop values i value lt e)

  -- nothing is left behind the last
  pub elements_end : (elem : ℕ) (values : List Value) (i : ℕ) → length values ≤ i
      → joined (elements elem (trees_of (drop i values))) ≡ []
  elements_end elem values i le = ap (λ l. joined (elements elem (trees_of l))) (drop_all i values le)

  -- the texts of members from a place on
  abbrev pub row : List ℕ → List Value → ℕ → List Token
  row members values i = joined (texts_of names graph (drop i members) (trees_of (drop i values)))

  no_texts : (values : Trees) → texts_of names graph [] values ≡ []
  no_texts NoTree = refl
  no_texts (AndTree value values) = refl

  no_values : (numbers : List ℕ) → texts_of names graph numbers NoTree ≡ []
  no_values [] = refl
  no_values (number ∷ numbers) = refl

  pub row_next : (members : List ℕ) (values : List Value) (i : ℕ) (value : Value) → i < length values
      → value ≡ get_or values i value
      → row members values i ≡ joined (part_at names graph (slice_get members i) (tree_of value))
      ++ row members values (i + 1)
  row_next members values i value lt e = elim (dropped members i) [
    | inl h ↦
        let more = texts_of names graph (drop (i + 1) members) (trees_of (drop (i + 1) values)) in
        let text = text_at names graph h.0 (tree_of value) in
        ap₂ (λ numbers trees. joined (texts_of names graph numbers trees)) h.2 (trees_of-drop values i value lt e)
        ∙ ap (λ l. l ++ joined more) (sym (append-nil text))
        ∙ ap (λ number. joined (part_at names graph number (tree_of value)) ++ joined more) (sym h.1)
    | inr h ↦
        let more = trees_of (drop (i + 1) values) in
        ap₂ (λ numbers trees. joined (texts_of names graph numbers trees)) h.1 (trees_of-drop values i value lt e)
        ∙ ap joined (sym (no_texts more) ∙ ap (λ numbers. texts_of names graph numbers more) (sym h.2))
        ∙ ap (λ number. joined (part_at names graph number (tree_of value)) ++ row members values (i + 1)) (sym h.0)
  ]

  pub row_end : (members : List ℕ) (values : List Value) (i : ℕ) → length values ≤ i → row members values i ≡ []
  row_end members values i le =
      ap (λ l. joined (texts_of names graph (drop i members) (trees_of l))) (drop_all i values le)
      ∙ ap joined (no_values (drop i members))

  -- the same of members with names
  abbrev pub pairs : List (List ℕ) → List ℕ → List Value → ℕ → List Token
  pairs labels members values i =
      paired (zip (drop i labels) (texts_of names graph (drop i members) (trees_of (drop i values))))

  no_pairs : (labels : List (List ℕ)) (texts : List (List Token)) → texts ≡ [] → zip labels texts ≡ []
  no_pairs [] texts e = refl
  no_pairs (label ∷ labels) texts e = ap (λ texts. zip (label ∷ labels) texts) e

  no_members : (labels : List (List ℕ)) (members : List ℕ) (values : Trees) → members ≡ []
      → zip labels (texts_of names graph members values) ≡ []
  no_members labels members values e =
      no_pairs labels (texts_of names graph members values)
      (ap (λ numbers. texts_of names graph numbers values) e ∙ no_texts values)

  none_left : {these those : List (List ℕ × List Token)} (first : List (List ℕ × List Token)) → first ≡ [] → these ≡ []
      → those ≡ [] → paired these ≡ paired first ++ paired those
  none_left first f t u = ap paired t ∙ sym (ap₂ (λ a b. paired a ++ paired b) f u)

  pub pairs_next : (labels : List (List ℕ)) (members : List ℕ) (values : List Value) (i : ℕ) (value : Value)
      → i < length values → value ≡ get_or values i value
      → pairs labels members values i
      ≡ paired (member_at names graph (slice_get labels i) (slice_get members i) (tree_of value))
      ++ pairs labels members values (i + 1)
  pairs_next labels members values i value lt e = elim (dropped labels i) [
    | inl l ↦ elim (dropped members i) [
      | inl h ↦
          let more = zip (drop (i + 1) labels)
          (texts_of names graph (drop (i + 1) members) (trees_of (drop (i + 1) values))) in
          let text = text_at names graph h.0 (tree_of value) in
          ap paired (ap₂ zip l.2 (ap₂ (λ numbers trees. texts_of names graph numbers trees) h.2
          (trees_of-drop values i value lt e)))
          ∙ ap (λ t. key l.0 ∷ (t ++ paired more)) (sym (append-nil text))
          ∙ ap₂ (λ label number. paired (member_at names graph label number (tree_of value)) ++ paired more) (sym l.1)
          (sym h.1)
      | inr h ↦
          none_left (member_at names graph (slice_get labels i) (slice_get members i) (tree_of value))
          (ap₂ (λ label number. member_at names graph label number (tree_of value)) l.1 h.0)
          (no_members (drop i labels) (drop i members) (trees_of (drop i values)) h.1)
          (no_members (drop (i + 1) labels) (drop (i + 1) members) (trees_of (drop (i + 1) values)) h.2)
    ]
    | inr l ↦
        none_left (member_at names graph (slice_get labels i) (slice_get members i) (tree_of value))
        (ap (λ label. member_at names graph label (slice_get members i) (tree_of value)) l.0)
        (ap (λ labels. zip labels (texts_of names graph (drop i members) (trees_of (drop i values)))) l.1)
        (ap (λ labels. zip labels (texts_of names graph (drop (i + 1) members) (trees_of (drop (i + 1) values)))) l.2)
  ]

  pub pairs_end : (labels : List (List ℕ)) (members : List ℕ) (values : List Value) (i : ℕ) → length values ≤ i
      → pairs labels members values i ≡ []
  pairs_end labels members values i le =
      ap (λ l. paired (zip (drop i labels) (texts_of names graph (drop i members) (trees_of l)))) (drop_all i values le)
      ∙ ap paired (no_pairs (drop i labels) (texts_of names graph (drop i members) NoTree) (no_values (drop i members)))

-- A text says at most one value.
use Rattle.std.proofs.Common.{◌≡◌, ◌⊎◌, inl, inr, ℕ, zero, suc, ◌-◌, ◌<◌, ℤ, List, [], ◌∷◌, ◌++◌, length, drop, get_or, map, replicate, zip, refl, sym, ap, ap₂, ◌∙◌, subst, append_assoc, arith}
use Rattle.std.specs.Prelude.{Ok, Result, IsPermutation}
use Rattle.std.specs.List.{AllByRecursion}
use Rattle.std.proofs.lemmas.Str.{encodes_same}
use Rattle.std.proofs.lemmas.List.{get_or_past}
use Rattle.std.proofs.lemmas.Option.{slice_get_cases}
use Rattle.json.specs.Token.{Token, string, begin_array, end_object, end_array}
use Rattle.hex.specs.Hex.{decode_of}
use Rattle.type_model.specs.PartNamesNames.{names_at, AreApart}
use Rattle.type_graph.specs.declared.node.Node.{Node}
use Rattle.type_graph.specs.declared.node.Node.TheVariants.{Octet, Char, Enum, Text, Seq, Array, Struct, Union, Frame}
use Rattle.type_graph.specs.Value.{Tree, Number, Bytes, Items, Choice, Trees, NoTree, AndTree, count, node_at, arm_of, IsNumber, Fits, FitAll}
use Rattle.type_graph.specs.GraphRules.{IsNode, IsGraph}
use Rattle.value_text.specs.Pieces.{octets_of, joined, paired}
use Rattle.value_text.specs.Says.{SaysNumber, SaysTogether, SaysReference, IsObject, IsList, Says, SayAll, StandsFor}
use Rattle.value_text.specs.inner.Refusing.{IsLow, IsNamed}
use Rattle.value_text.specs.Stringified.{Stringifies}
use Rattle.value_text.proofs.Spelled.{one_value as one_reference}
use Rattle.value_text.proofs.PrintedTexts.{fit_count}
use Rattle.value_text.proofs.Firsts.{IsFirst, says_begun}
use Rattle.value_text.proofs.ReadLaws.{IsByte, together_byte}
use Rattle.value_text.proofs.OneNumber.{text_in, Is_string, number_one, char_one}
use Rattle.value_text.proofs.OneObject.{first_of_tokens, Part, label_of_part, pair_of, second_of, IsSame, objects_one}

-- the octets of a result
abbrev octets_in : {E : Type 0} → Result (List ℕ) E → List ℕ
octets_in (Ok octets) = octets
octets_in result = []

-- with which a token begins something
abbrev pub Is_list : Token → Type 0
Is_list begin_array = Unit {0}
Is_list token = ⊥

-- ---- what graphs and names give

node_low : (graph : List Node) (node : Node) → IsNode graph node → IsLow node
node_low graph (Enum limit) h = h.1
node_low graph node h = tt

pub all_low : (graph : List Node) → IsGraph graph → (number : ℕ) → IsLow (node_at graph number)
all_low graph rules number = elim ((slice_get_cases graph number).1) [
  | inl h ↦ node_low graph (node_at graph number) (rules.nodes number Octet h.1)
  | inr h ↦ subst IsLow (sym (get_or_past graph number Octet h.0)) tt
]

-- names that differ, where there are nodes
node_named : (node : Node) (labels : List (List ℕ)) → AreApart labels → IsNamed node labels
node_named Octet labels h = tt
node_named node labels h = h

pub all_named : (names : List (List (List ℕ))) (graph : List Node)
    → ((number : ℕ) → number < length graph → AreApart (names_at names number))
    → (number : ℕ) → IsNamed (node_at graph number) (names_at names number)
all_named names graph apart number = elim ((slice_get_cases graph number).1) [
  | inl h ↦ node_named (node_at graph number) (names_at names number) (apart number h.1)
  | inr h ↦ subst (λ node. IsNamed node (names_at names number)) (sym (get_or_past graph number Octet h.0)) tt
]

-- ---- octets together

abbrev AreBytes : Trees → Type 0
AreBytes NoTree = Unit {0}
AreBytes (AndTree (Number n) more) = IsNumber Octet n × AreBytes more
AreBytes (AndTree value more) = ⊥

bytes_same : (vs ws : Trees) → AreBytes vs → AreBytes ws → octets_of vs ≡ octets_of ws → vs ≡ ws
bytes_same NoTree NoTree h k e = refl
bytes_same NoTree (AndTree w ws) h k e = let long = ap length e in absurd (omega (arith, long))
bytes_same (AndTree v vs) NoTree h k e = let long = ap length e in absurd (omega (arith, long))
bytes_same (AndTree (Number m) vs) (AndTree (Number n) ws) h k e =
    ap₂ AndTree (ap Number (char_one m n h.0 k.0 (ap (λ l. get_or l 0 0) e))) (bytes_same vs ws h.1 k.1 (ap (drop 1) e))
bytes_same (AndTree (Number m) vs) (AndTree w ws) h k e = absurd k
bytes_same (AndTree v vs) (AndTree w ws) h k e = absurd h

together_one : (node : Node) (octets others : List ℕ) (t u r s : List Token) → SaysTogether node octets t
    → SaysTogether node others u → t ++ r ≡ u ++ s
    → (octets ≡ others) × (r ≡ s)
together_one Octet octets others t u r s h k e =
    let whole = ap (λ l. l ++ r) (sym h.1) ∙ e ∙ ap (λ l. l ++ s) k.1 in
    (ap octets_in (sym h.2 ∙ ap decode_of (ap text_in (ap first_of_tokens whole)) ∙ k.2), ap (drop 1) whole)
together_one Char octets others t u r s h k e =
    let whole = ap (λ l. l ++ r) (sym h) ∙ e ∙ ap (λ l. l ++ s) k in
    (encodes_same octets others (ap text_in (ap first_of_tokens whole)), ap (drop 1) whole)
together_one node octets others t u r s h k e = absurd h

together_list : (node : Node) (octets : List ℕ) (texts : List (List Token)) (t u r s : List Token)
    → SaysTogether node octets t → IsList texts u → t ++ r ≡ u ++ s → ⊥
together_list Octet octets texts t u r s h k e =
    subst Is_string (ap first_of_tokens (ap (λ l. l ++ r) (sym h.1) ∙ e ∙ ap (λ l. l ++ s) k)) tt
together_list Char octets texts t u r s h k e =
    subst Is_string (ap first_of_tokens (ap (λ l. l ++ r) (sym h) ∙ e ∙ ap (λ l. l ++ s) k)) tt
together_list node octets texts t u r s h k e = absurd h

lists_same : (ts us : List (List Token)) (t u r s : List Token) → IsList ts t → IsList us u → t ++ r ≡ u ++ s
    → joined ts ++ end_array ∷ r ≡ joined us ++ end_array ∷ s
lists_same ts us t u r s h k e =
    let whole = ap (λ l. l ++ r) (sym h) ∙ e ∙ ap (λ l. l ++ s) k in
    sym (append_assoc (joined ts) (end_array ∷ []) r) ∙ ap (drop 1) whole ∙ append_assoc (joined us) (end_array ∷ []) s

object_list : (labels : List (List ℕ)) (ts us : List (List Token)) (t u r s : List Token) → IsObject labels ts t
    → IsList us u → t ++ r ≡ u ++ s → ⊥
object_list labels ts us t u r s h k e =
    subst Is_list (sym (ap first_of_tokens (ap (λ l. l ++ r) (sym h.is_object) ∙ e ∙ ap (λ l. l ++ s) k))) tt

module _ (names : List (List (List ℕ))) (graph : List Node) where
  -- of two fronts of the same tokens that say values of a node, the values are one, and so is what is left
  abbrev pub IsOne : Tree → Type 0
  IsOne v = (labels : List (List ℕ)) (node : Node) (depth other : ℕ) (w : Tree) (t u r s : List Token) → IsLow node
      → IsNamed node labels
      → Fits graph node v depth → Fits graph node w other → Says names graph labels node v t
      → Says names graph labels node w u → t ++ r ≡ u ++ s → (v ≡ w) × (r ≡ s)

  abbrev pub AreOne : Trees → Type 0
  AreOne NoTree = Unit {0}
  AreOne (AndTree v vs) = IsOne v × AreOne vs

  byte_fits : (node : Node) (v : Tree) (more : Trees) (depth : ℕ) → IsByte node → Fits graph node v depth
      → AreBytes more → AreBytes (AndTree v more)
  byte_fits Octet (Number n) more depth is_byte h rest = (h, rest)
  byte_fits Char (Number n) more depth is_byte h rest = (h, rest)
  byte_fits Octet v more depth is_byte h rest = absurd h
  byte_fits Char v more depth is_byte h rest = absurd h
  byte_fits node v more depth is_byte h rest = absurd is_byte

  are_bytes : (elem n depth : ℕ) (vs : Trees) → IsByte (node_at graph elem) → FitAll graph (replicate n elem) vs depth
      → AreBytes vs
  are_bytes elem n depth NoTree is_byte h = tt
  are_bytes elem zero depth (AndTree v vs) is_byte h = absurd h
  are_bytes elem (suc n) depth (AndTree v vs) is_byte h =
      byte_fits (node_at graph elem) v vs depth is_byte h.0 (are_bytes elem n depth vs is_byte h.1)

  -- no text begins with the end of a list
  pub not_end : (labels : List (List ℕ)) (node : Node) (w : Tree) (u r s : List Token)
      → Says names graph labels node w u → end_array ∷ r ≡ u ++ s → ⊥
  not_end labels node w u r s h e =
      let begun = says_begun names graph labels node w u h in
      subst IsFirst (sym (ap first_of_tokens (e ∙ ap (λ l. l ++ s) begun.is))) begun.first

  abbrev Elements : ℕ → ℕ → Trees → List Token → Type 0
  Elements elem n values tokens = SaysTogether (node_at graph elem) (octets_of values) tokens
      ⊎ ((texts : List (List Token)) × SayAll names graph (replicate n elem) values texts × IsList texts tokens)

  module _ (low : (number : ℕ) → IsLow (node_at graph number))
      (apart : (number : ℕ) → IsNamed (node_at graph number) (names_at names number)) where
    all_one : (numbers : List ℕ) (depth other : ℕ) (vs ws : Trees) (ts us : List (List Token)) (r s : List Token)
        → AreOne vs
        → FitAll graph numbers vs depth → FitAll graph numbers ws other → SayAll names graph numbers vs ts
        → SayAll names graph numbers ws us
        → joined ts ++ r ≡ joined us ++ s → (vs ≡ ws) × (r ≡ s)
    all_one [] depth other NoTree NoTree [] [] r s one f g h k e = (refl, e)
    all_one [] depth other NoTree NoTree [] (u ∷ us) r s one f g h k e = absurd k
    all_one [] depth other NoTree NoTree (t ∷ ts) us r s one f g h k e = absurd h
    all_one [] depth other NoTree (AndTree w ws) ts us r s one f g h k e = absurd g
    all_one [] depth other (AndTree v vs) ws ts us r s one f g h k e = absurd f
    all_one (number ∷ numbers) depth other NoTree ws ts us r s one f g h k e = absurd f
    all_one (number ∷ numbers) depth other (AndTree v vs) NoTree ts us r s one f g h k e = absurd g
    all_one (number ∷ numbers) depth other (AndTree v vs) (AndTree w ws) [] us r s one f g h k e = absurd h
    all_one (number ∷ numbers) depth other (AndTree v vs) (AndTree w ws) (t ∷ ts) [] r s one f g h k e = absurd k
    all_one (number ∷ numbers) depth other (AndTree v vs) (AndTree w ws) (t ∷ ts) (u ∷ us) r s one f g h k e =
        let first = one.0 (names_at names number) (node_at graph number) depth other w t u (joined ts ++ r)
        (joined us ++ s) (low number) (apart number) f.0 g.0 h.0 k.0
        (sym (append_assoc t (joined ts) r) ∙ e ∙ append_assoc u (joined us) s) in
        let rest = all_one numbers depth other vs ws ts us r s one.1 f.1 g.1 h.1 k.1 first.1 in
        (ap₂ AndTree first.0 rest.0, rest.1)

    -- elements are as many as stand before the end of their list
    elements_one : (elem depth other : ℕ) (vs ws : Trees) (ts us : List (List Token)) (r s : List Token) → AreOne vs
        → FitAll graph (replicate (count vs) elem) vs depth → FitAll graph (replicate (count ws) elem) ws other
        → SayAll names graph (replicate (count vs) elem) vs ts → SayAll names graph (replicate (count ws) elem) ws us
        → joined ts ++ end_array ∷ r ≡ joined us ++ end_array ∷ s → (vs ≡ ws) × (r ≡ s)
    elements_one elem depth other NoTree NoTree [] [] r s one f g h k e = (refl, ap (drop 1) e)
    elements_one elem depth other NoTree NoTree [] (u ∷ us) r s one f g h k e = absurd k
    elements_one elem depth other NoTree NoTree (t ∷ ts) us r s one f g h k e = absurd h
    elements_one elem depth other NoTree (AndTree w ws) [] [] r s one f g h k e = absurd k
    elements_one elem depth other NoTree (AndTree w ws) [] (u ∷ us) r s one f g h k e =
        absurd (not_end (names_at names elem) (node_at graph elem) w u r (joined us ++ end_array ∷ s) k.0
        (e ∙ append_assoc u (joined us) (end_array ∷ s)))
    elements_one elem depth other NoTree (AndTree w ws) (t ∷ ts) us r s one f g h k e = absurd h
    elements_one elem depth other (AndTree v vs) NoTree [] us r s one f g h k e = absurd h
    elements_one elem depth other (AndTree v vs) NoTree (t ∷ ts) [] r s one f g h k e =
        absurd (not_end (names_at names elem) (node_at graph elem) v t s (joined ts ++ end_array ∷ r) h.0
        (sym e ∙ append_assoc t (joined ts) (end_array ∷ r)))
    elements_one elem depth other (AndTree v vs) NoTree (t ∷ ts) (u ∷ us) r s one f g h k e = absurd k
    elements_one elem depth other (AndTree v vs) (AndTree w ws) [] us r s one f g h k e = absurd h
    elements_one elem depth other (AndTree v vs) (AndTree w ws) (t ∷ ts) [] r s one f g h k e = absurd k
    elements_one elem depth other (AndTree v vs) (AndTree w ws) (t ∷ ts) (u ∷ us) r s one f g h k e =
        let first = one.0 (names_at names elem) (node_at graph elem) depth other w t u (joined ts ++ end_array ∷ r)
        (joined us ++ end_array ∷ s) (low elem) (apart elem) f.0 g.0 h.0 k.0
        (sym (append_assoc t (joined ts) (end_array ∷ r)) ∙ e ∙ append_assoc u (joined us) (end_array ∷ s)) in
        let rest = elements_one elem depth other vs ws ts us r s one.1 f.1 g.1 h.1 k.1 first.1 in
        (ap₂ AndTree first.0 rest.0, rest.1)

    pub together_or_list : (elem depth other : ℕ) (vs ws : Trees) (t u r s : List Token) → AreOne vs
        → FitAll graph (replicate (count vs) elem) vs depth → FitAll graph (replicate (count ws) elem) ws other
        → Elements elem (count vs) vs t → Elements elem (count ws) ws u → t ++ r ≡ u ++ s → (vs ≡ ws) × (r ≡ s)
    together_or_list elem depth other vs ws t u r s one f g (inl h) (inl k) e =
        let same = together_one (node_at graph elem) (octets_of vs) (octets_of ws) t u r s h k e in
        let is_byte = together_byte (node_at graph elem) (octets_of vs) t h in (
          bytes_same vs ws (are_bytes elem (count vs) depth vs is_byte f) (are_bytes elem (count ws) other ws is_byte g)
              same.0,
          same.1,
        )
    together_or_list elem depth other vs ws t u r s one f g (inl h) (inr k) e =
        absurd (together_list (node_at graph elem) (octets_of vs) k.0 t u r s h k.2 e)
    together_or_list elem depth other vs ws t u r s one f g (inr h) (inl k) e =
        absurd (together_list (node_at graph elem) (octets_of ws) h.0 u t s r k h.2 (sym e))
    together_or_list elem depth other vs ws t u r s one f g (inr h) (inr k) e =
        elements_one elem depth other vs ws h.0 k.0 r s one f g h.1 k.1 (lists_same h.0 k.0 t u r s h.2 k.2 e)

    -- members with their names, and with their texts in two objects
    record Members (labels : List (List ℕ)) (vs ws : Trees) (ts us : List (List Token)) : Type 0 where
      parts : List Part
      labels_are : labels ≡ map label_of_part parts
      firsts : zip labels ts ≡ map pair_of parts
      seconds : zip labels us ≡ map second_of parts
      same : AllByRecursion IsSame parts → vs ≡ ws

    members : (numbers : List ℕ) (depth other : ℕ) (vs ws : Trees) (ts us : List (List Token)) (labels : List (List ℕ))
        → length labels ≡ length ts → AreOne vs
        → FitAll graph numbers vs depth → FitAll graph numbers ws other → SayAll names graph numbers vs ts
        → SayAll names graph numbers ws us → Members labels vs ws ts us
    members [] depth other NoTree NoTree [] [] [] long one f g h k =
        record { parts = []; labels_are = refl; firsts = refl; seconds = refl; same = λ all. refl }
    members [] depth other NoTree NoTree [] [] (label ∷ labels) long one f g h k = absurd (omega (arith, long))
    members [] depth other NoTree NoTree [] (u ∷ us) labels long one f g h k = absurd k
    members [] depth other NoTree NoTree (t ∷ ts) us labels long one f g h k = absurd h
    members [] depth other NoTree (AndTree w ws) ts us labels long one f g h k = absurd g
    members [] depth other (AndTree v vs) ws ts us labels long one f g h k = absurd f
    members (number ∷ numbers) depth other NoTree ws ts us labels long one f g h k = absurd f
    members (number ∷ numbers) depth other (AndTree v vs) NoTree ts us labels long one f g h k = absurd g
    members (number ∷ numbers) depth other (AndTree v vs) (AndTree w ws) [] us labels long one f g h k = absurd h
    members (number ∷ numbers) depth other (AndTree v vs) (AndTree w ws) (t ∷ ts) [] labels long one f g h k = absurd k
    members (number ∷ numbers) depth other (AndTree v vs) (AndTree w ws) (t ∷ ts) (u ∷ us) [] long one f g h k =
        absurd (omega (arith, long))
    members (number ∷ numbers) depth other (AndTree v vs) (AndTree w ws) (t ∷ ts) (u ∷ us) (label ∷ labels) long one f g
        h k =
        let rest = members numbers depth other vs ws ts us labels (omega (arith, long)) one.1 f.1 g.1 h.1 k.1 in
        let part : Part = record {
          label = label;
          value = v;
          other = w;
          text = t;
          second = u;
          one = λ r s e. one.0 (names_at names number) (node_at graph number) depth other w t u r s (low number)
              (apart number) f.0 g.0 h.0 k.0 e;
        } in record {
          parts = part ∷ rest.parts;
          labels_are = ap (λ l. label ∷ l) rest.labels_are;
          firsts = ap (λ l. (label, t) ∷ l) rest.firsts;
          seconds = ap (λ l. (label, u) ∷ l) rest.seconds;
          same = λ all. ap₂ AndTree all.0 (rest.same all.1);
        }

    object_or_list : (labels : List (List ℕ)) (numbers : List ℕ) (depth other : ℕ) (vs ws : Trees)
        (ts us : List (List Token)) (t u r s : List Token) → AreApart labels → AreOne vs
        → FitAll graph numbers vs depth → FitAll graph numbers ws other → SayAll names graph numbers vs ts
        → SayAll names graph numbers ws us
        → IsObject labels ts t ⊎ IsList ts t → IsObject labels us u ⊎ IsList us u → t ++ r ≡ u ++ s
        → (vs ≡ ws) × (r ≡ s)
    object_or_list labels numbers depth other vs ws ts us t u r s distinct one f g h k (inr a) (inr b) e =
        let both = all_one numbers depth other vs ws ts us (end_array ∷ r) (end_array ∷ s) one f g h k
        (lists_same ts us t u r s a b e) in
        (both.0, ap (drop 1) both.1)
    object_or_list labels numbers depth other vs ws ts us t u r s distinct one f g h k (inl a) (inr b) e =
        absurd (object_list labels ts us t u r s a b e)
    object_or_list labels numbers depth other vs ws ts us t u r s distinct one f g h k (inr a) (inl b) e =
        absurd (object_list labels us ts u t s r b a (sym e))
    object_or_list labels numbers depth other vs ws ts us t u r s distinct one f g h k (inl a) (inl b) e =
        let both = members numbers depth other vs ws ts us labels a.named one f g h k in
        let whole = ap (λ l. l ++ r) (sym a.is_object) ∙ e ∙ ap (λ l. l ++ s) b.is_object in
        let inside = sym (append_assoc (paired a.pairs) (end_object ∷ []) r) ∙ ap (drop 1) whole
        ∙ append_assoc (paired b.pairs) (end_object ∷ []) s in
        let found = objects_one both.parts (subst AreApart both.labels_are distinct) a.pairs b.pairs r s
        (subst (λ l. IsPermutation l a.pairs) both.firsts a.in_some_order)
        (subst (λ l. IsPermutation l b.pairs) both.seconds b.in_some_order) inside in
        (both.same found.0, found.1)

    -- ---- object references

    two_references : (labels : List (List ℕ)) (numbers : List ℕ) (vs ws : Trees) (t u r s : List Token)
        → SaysReference graph labels numbers vs t
        → SaysReference graph labels numbers ws u → t ++ r ≡ u ++ s → (Items vs ≡ Items ws) × (r ≡ s)
    two_references labels numbers vs ws t u r s h k e =
        let whole = ap (λ l. l ++ r) (sym h.3) ∙ e ∙ ap (λ l. l ++ s) k.3 in
        let same : h.1 ≡ k.1 = ap text_in (ap first_of_tokens whole) in (
          one_reference h.1 (Items vs) (Items ws) h.2 (subst (λ words. Stringifies words (Items ws)) (sym same) k.2),
          ap (drop 1) whole,
        )

    -- a string is neither an object nor a list
    string_members : (words : List ℕ) (own : List (List ℕ)) (us : List (List Token)) (t u r s : List Token)
        → t ≡ string words ∷ []
        → IsObject own us u ⊎ IsList us u → t ++ r ≡ u ++ s → ⊥
    string_members words own us t u r s h (inl k) e =
        subst Is_string (ap first_of_tokens (ap (λ l. l ++ r) (sym h) ∙ e ∙ ap (λ l. l ++ s) k.is_object)) tt
    string_members words own us t u r s h (inr k) e =
        subst Is_string (ap first_of_tokens (ap (λ l. l ++ r) (sym h) ∙ e ∙ ap (λ l. l ++ s) k)) tt

    abbrev Structure : List (List ℕ) → List ℕ → Trees → List Token → Type 0
    Structure labels numbers values tokens = SaysReference graph labels numbers values tokens
        ⊎ ((texts : List (List Token)) × SayAll names graph numbers values texts
        × (IsObject labels texts tokens ⊎ IsList texts tokens))

    structures : (labels : List (List ℕ)) (numbers : List ℕ) (depth other : ℕ) (vs ws : Trees) (t u r s : List Token)
        → AreApart labels → AreOne vs
        → FitAll graph numbers vs depth → FitAll graph numbers ws other → Structure labels numbers vs t
        → Structure labels numbers ws u → t ++ r ≡ u ++ s
        → (Items vs ≡ Items ws) × (r ≡ s)
    structures labels numbers depth other vs ws t u r s distinct one f g (inl h) (inl k) e =
        two_references labels numbers vs ws t u r s h k e
    structures labels numbers depth other vs ws t u r s distinct one f g (inl h) (inr k) e =
        absurd (string_members h.1 labels k.0 t u r s h.3 k.2 e)
    structures labels numbers depth other vs ws t u r s distinct one f g (inr h) (inl k) e =
        absurd (string_members k.1 labels h.0 u t s r k.3 h.2 (sym e))
    structures labels numbers depth other vs ws t u r s distinct one f g (inr h) (inr k) e =
        let both = object_or_list labels numbers depth other vs ws h.0 k.0 t u r s distinct one f g h.1 k.1 h.2 k.2 e in
        (ap Items both.0, both.1)

    -- ---- by kinds

    one_text : (text : List ℕ) → IsOne (Bytes text)
    one_text text labels (Text bound) depth other (Bytes second) t u r s short distinct f g h k e =
        let whole = ap (λ l. l ++ r) (sym h) ∙ e ∙ ap (λ l. l ++ s) k in
        (ap Bytes (encodes_same text second (ap text_in (ap first_of_tokens whole))), ap (drop 1) whole)
    one_text text labels (Text bound) depth other w t u r s short distinct f g h k e = absurd g
    one_text text labels node depth other w t u r s short distinct f g h k e = absurd f

    -- where one value is a number, all are
    pub only_numbers : (node : Node) (n : ℤ) (w : Tree) (depth : ℕ) → IsNumber node n → Fits graph node w depth
        → (m : ℤ) × (w ≡ Number m) × IsNumber node m
    only_numbers node n (Number m) depth f g = (m, refl, g)
    only_numbers (Text bound) n w depth f g = absurd f
    only_numbers (Seq elem bound) n w depth f g = absurd f
    only_numbers (Array elem k) n w depth f g = absurd f
    only_numbers (Struct members) n w depth f g = absurd f
    only_numbers (Frame members) n w depth f g = absurd f
    only_numbers (Union switch arms default) n w depth f g = absurd f
    only_numbers node n w depth f g = absurd g

    two_numbers : (labels : List (List ℕ)) (node : Node) (n m : ℤ) (t u r s : List Token) → IsLow node
        → IsNamed node labels → IsNumber node n → IsNumber node m
        → Says names graph labels node (Number n) t → Says names graph labels node (Number m) u → t ++ r ≡ u ++ s
        → (Number n ≡ Number m) × (r ≡ s)
    two_numbers labels node n m t u r s short distinct f g h k e =
        let whole = ap (λ l. l ++ r) (sym h.2) ∙ e ∙ ap (λ l. l ++ s) k.2 in
        let token : h.0 ≡ k.0 = ap first_of_tokens whole in (
          ap Number (number_one labels node n m h.0 short distinct f g h.1
              (subst (SaysNumber labels node m) (sym token) k.1)),
          ap (drop 1) whole,
        )

    one_number : (n : ℤ) → IsOne (Number n)
    one_number n labels node depth other w t u r s short distinct f g h k e =
        let is = only_numbers node n w other f g in
        let both = two_numbers labels node n is.0 t u r s short distinct f is.2 h
        (subst (λ v. Says names graph labels node v u) is.1 k) e in
        (both.0 ∙ sym is.1, both.1)

    one_items : (vs : Trees) → AreOne vs → IsOne (Items vs)
    one_items vs one labels (Seq elem bound) depth other (Items ws) t u r s short distinct f g h k e =
        let both = together_or_list elem (depth - 1) (other - 1) vs ws t u r s one f.2 g.2 h k e in
        (ap Items both.0, both.1)
    one_items vs one labels (Array elem n) depth other (Items ws) t u r s short distinct f g h k e =
        let first = sym (fit_count graph n elem depth vs f) in
        let second = sym (fit_count graph n elem other ws g) in
        let both = together_or_list elem depth other vs ws t u r s one
        (subst (λ m. FitAll graph (replicate m elem) vs depth) first f)
        (subst (λ m. FitAll graph (replicate m elem) ws other) second g)
        (subst (λ m. Elements elem m vs t) first h) (subst (λ m. Elements elem m ws u) second k) e in
        (ap Items both.0, both.1)
    one_items vs one labels (Struct numbers) depth other (Items ws) t u r s short distinct f g h k e =
        structures labels numbers depth other vs ws t u r s distinct one f g h k e
    one_items vs one labels (Frame numbers) depth other (Items ws) t u r s short distinct f g h k e =
        let both = object_or_list labels numbers depth other vs ws h.0 k.0 t u r s distinct one f g h.1 k.1 h.2 k.2 e in
        (ap Items both.0, both.1)
    one_items vs one labels (Seq elem bound) depth other w t u r s short distinct f g h k e = absurd g
    one_items vs one labels (Array elem n) depth other w t u r s short distinct f g h k e = absurd g
    one_items vs one labels (Struct numbers) depth other w t u r s short distinct f g h k e = absurd g
    one_items vs one labels (Frame numbers) depth other w t u r s short distinct f g h k e = absurd g
    one_items vs one labels node depth other w t u r s short distinct f g h k e = absurd f

    one_choice : (a : ℤ) (vs : Trees) → AreOne vs → IsOne (Choice a vs)
    one_choice a vs one labels (Union switch arms default) depth other (Choice b ws) t u r s short distinct f g h k e =
        let inside = lists_same ((h.0 ∷ []) ∷ h.2) ((k.0 ∷ []) ∷ k.2) t u r s h.4 k.4 e in
        let token : h.0 ≡ k.0 = ap first_of_tokens inside in
        let own = names_at names switch in
        let node = node_at graph switch in
        let label = number_one own node a b h.0 (low switch) (apart switch) f.0 g.0 h.1
        (subst (SaysNumber own node b) (sym token) k.1) in
        let both = all_one (arm_of arms default a) depth other vs ws h.2 k.2 (end_array ∷ r) (end_array ∷ s) one f.1
        (subst (λ n. FitAll graph (arm_of arms default n) ws other) (sym label) g.1)
        h.3 (subst (λ n. SayAll names graph (arm_of arms default n) ws k.2) (sym label) k.3) (ap (drop 1) inside) in
        (ap₂ Choice label both.0, ap (drop 1) both.1)
    one_choice a vs one labels (Union switch arms default) depth other w t u r s short distinct f g h k e = absurd g
    one_choice a vs one labels node depth other w t u r s short distinct f g h k e = absurd f

    mutual
      pub one_value : (v : Tree) → IsOne v
      one_value (Number n) = one_number n
      one_value (Bytes text) = one_text text
      one_value (Items vs) = one_items vs (one_values vs)
      one_value (Choice a vs) = one_choice a vs (one_values vs)

      pub one_values : (vs : Trees) → AreOne vs
      one_values NoTree = tt
      one_values (AndTree v vs) = (one_value v, one_values vs)

-- of the node of a number, whose names differ
pub stands_for_one : (names : List (List (List ℕ))) (graph : List Node) → IsGraph graph
    → ((number : ℕ) → number < length graph → AreApart (names_at names number))
    → (number : ℕ) (value other : Tree) (tokens : List Token) → StandsFor names graph number value tokens
    → StandsFor names graph number other tokens → value ≡ other
stands_for_one names graph rules apart number value other tokens one two =
    (one_value names graph (all_low graph rules) (all_named names graph apart) value (names_at names number)
    (node_at graph number) 64 64 other tokens tokens [] []
    (all_low graph rules number) (all_named names graph apart number) one.fits two.fits one.says two.says refl).0

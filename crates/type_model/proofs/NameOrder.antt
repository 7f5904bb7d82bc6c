-- Names in the order of their octets, and the search among them.
use Rattle.std.proofs.Common.{◌≡◌, ◌≢◌, ◌<◌, ◌≤◌, ◌+◌, ◌-◌, ℕ, zero, suc, Bool, true, false, List, [], ◌∷◌, ◌++◌, length, map, take, get_or, Contains, refl, sym, ap, subst, ◌∙◌, inl, inr, length-append, arith, ◌==◌}
use Rattle.std.specs.Cmp.Lexicographic.{slice_cmp}
use Rattle.std.specs.Ordering.{nat_cmp, ordering_then, ordering_reverse, is_lt}
use Rattle.std.specs.declared.cmp.Ordering.{Ordering}
use Rattle.std.specs.declared.cmp.Ordering.TheVariants.{Less, Equal, Greater}
use Rattle.std.specs.List.Sorted.{IsSorted, IsPermutation}
use Rattle.std.proofs.lemmas.Bool.{cases_order, true≢false}
use Rattle.std.proofs.lemmas.Bool.Decides.{Decides-eqb}
use Rattle.std.proofs.lemmas.Cmp.{nat_list_cmp_total}
use Rattle.std.proofs.lemmas.Map.Lookups.{exact_bytes}
use Rattle.std.proofs.lemmas.Map.Keys.{IsDistinct-IsPermutation}
use Rattle.std.proofs.lemmas.Map.Made.{AllPairs-from_IsDistinct, IsDistinct-from_AllPairs}
use Rattle.std.proofs.lemmas.List.{get_or-map, get_or_default, length-map, map-append, take_more}
use Rattle.std.proofs.lemmas.Slice.Eq.{bytes_eq-Decides}
use Rattle.std.specs.Str.{bytes_eq}
use Rattle.std.proofs.lemmas.List.Elements.{All-map}
use Rattle.std.proofs.lemmas.List.Sorted.{All-permutation, Contains-permutation, IsPermutation-map}
use Rattle.std.proofs.Math.Seq.{get_or-append_seam}
use Rattle.std.proofs.Math.ListN.{get_or-append}
use Rattle.type_model.specs.Names.{AreDistinct, IsOrder, name_at}
use Rattle.type_model.specs.inner.Keys.{Key, AreKeys, Differ, key_cmp, place_of}

abbrev Names : Type 0
Names = List (List ℕ × ℕ)

abbrev cmp : List ℕ → List ℕ → Ordering
cmp = slice_cmp nat_cmp

-- ---- texts

less≢equal : Less ≢ Equal
less≢equal e = cc

-- no text is below itself
never_below : (text : List ℕ) → cmp text text ≡ Less → ⊥
never_below text e = by (cmp text text) e (nat_list_cmp_total.antisymm text text)
  where
    by : (o : Ordering) → o ≡ Less → o ≡ ordering_reverse o → ⊥
    by Less e same = cc
    by Equal e same = cc
    by Greater e same = cc

below_differs : (one other : List ℕ) → cmp one other ≡ Less → one ≡ other → ⊥
below_differs one other e same = never_below one (ap (λ text. cmp one text) same ∙ e)

above_is_below : (one other : List ℕ) → cmp one other ≡ Greater → cmp other one ≡ Less
above_is_below one other e = nat_list_cmp_total.antisymm other one ∙ ap ordering_reverse e

-- what isn't below what stands before it, and differs from it
rises : (one other : List ℕ) (tie : Ordering) → is_lt (ordering_then (cmp other one) tie) ≡ false → one ≢ other
    → cmp one other ≡ Less
rises one other tie not_less differ = by (cmp one other) refl
  where
    by : (o : Ordering) → cmp one other ≡ o → cmp one other ≡ Less
    by Less e = e
    by Equal e = absurd (differ (exact_bytes one other e))
    by Greater e = absurd (true≢false (sym (ap (λ o. is_lt (ordering_then o tie)) (above_is_below one other e))
        ∙ not_less))

-- ---- the keys as they are made

pub record KeysUpTo (names : Names) (upto : ℕ) (keys : List Key) : Type 0 where
  pub long : length keys ≡ upto
  pub each : (k : ℕ) (d : Key) → k < upto → ((get_or keys k d).1 ≡ k) × ((get_or keys k d).0.now ≡ name_at names k)

pub keys_none : (names : Names) → KeysUpTo names 0 []
keys_none names = record { long = refl; each = λ k d within. absurd (omega (arith, within)) }

pub keys_more : (names : Names) (upto : ℕ) (keys : List Key) (key : Key) → KeysUpTo names upto keys → key.1 ≡ upto
    → key.0.now ≡ name_at names upto
    → KeysUpTo names (upto + 1) (keys ++ key ∷ [])
keys_more names upto keys key up place text = record {
  long = length-append keys (key ∷ []) ∙ ap (λ n. n + 1) up.long;
  each = λ k d within. elim (cases_order k upto) [
    | inl same ↦
        let here : get_or (keys ++ key ∷ []) k d ≡ key = ap (λ n. get_or (keys ++ key ∷ []) n d) (same ∙ sym up.long)
        ∙ get_or-append_seam keys key [] d in (
          ap (λ (it : Key). it.1) here ∙ place ∙ sym same,
          ap (λ (it : Key). it.0.now) here ∙ text
              ∙ ap (name_at names) (sym same),
        )
    | inr order ↦ elim order [
      | inl before ↦
          let here : get_or (keys ++ key ∷ []) k d ≡ get_or keys k d =
          get_or-append keys (key ∷ []) d k (omega (arith, before, up.long)) in
          let known = up.each k d before in
          (ap (λ (it : Key). it.1) here ∙ known.0, ap (λ (it : Key). it.0.now) here ∙ known.1)
      | inr past ↦ absurd (omega (arith, past, within))
    ]
  ];
}

-- what holds of an element of a list holds of that of the list that it is mapped to
get_map : {A : Type 0} (f : A → ℕ) (xs : List A) (k d : ℕ) (P : ℕ → Type 0) → k < length xs
    → ((e : A) → P (f (get_or xs k e))) → P (get_or (map f xs) k d)
get_map f [] k d P within h = absurd (omega (arith, within))
get_map f (x ∷ xs) k d P within h = subst P (sym (get_or-map f (x ∷ xs) k x d within)) (h x)

pub keys_are : (names : Names) (keys : List Key) → KeysUpTo names (length names) keys → AreKeys names keys
keys_are names keys up =
    let number : (k d : ℕ) → k < length names → get_or (map place_of keys) k d ≡ k =
    λ k d within. get_map place_of keys k d (λ n. n ≡ k) (omega (arith, within, up.long)) (λ e. (up.each k e within).0)
    in
    record {
      each = λ k d within.
          let known = up.each k d (omega (arith, within, up.long)) in
          (omega (arith, within, up.long, known.0), known.1 ∙ ap (name_at names) (sym known.0));
      whole = λ place within. (
        place,
        omega (arith, within, up.long, length-map keys place_of),
        number place place within,
      );
      apart = λ i j d before within same.
          let long : j < length names = omega (arith, within, up.long, length-map keys place_of) in
          let one = number i d (omega (arith, before, long)) in
          let other = number j d long in
          let equal : i ≡ j = sym one ∙ same ∙ other in
          absurd (omega (arith, before, equal));
    }

flips : (x y : ℕ) → (x == y) ≡ (y == x)
flips x y = by (x == y) (y == x) refl refl
  where
    by : (a b : Bool) → (x == y) ≡ a → (y == x) ≡ b → (x == y) ≡ (y == x)
    by true true e f = e ∙ sym f
    by false false e f = e ∙ sym f
    by true false e f = absurd (true≢false (sym ((Decides-eqb y x).1 (sym ((Decides-eqb x y).0 e))) ∙ f))
    by false true e f = absurd (true≢false (sym ((Decides-eqb x y).1 (sym ((Decides-eqb y x).0 f))) ∙ e))

pub keys_moved : (names : Names) (keys moved : List Key) → IsPermutation keys moved → AreKeys names keys
    → AreKeys names moved
keys_moved names keys moved permuted are =
    let places : IsPermutation (map place_of keys) (map place_of moved) =
    IsPermutation-map place_of keys moved permuted in
    record {
      each = All-permutation (λ (key : Key). (key.1 < length names) × (key.0.now ≡ name_at names key.1)) keys moved
          permuted are.each;
      whole = λ place within. Contains-permutation (map place_of keys) (map place_of moved) place places
          (are.whole place within);
      apart = AllPairs-from_IsDistinct Decides-eqb (map place_of moved)
          (IsDistinct-IsPermutation _ flips (map place_of keys) (map place_of moved) places
          (IsDistinct-from_AllPairs Decides-eqb (map place_of keys) are.apart));
    }

-- ---- keys in order

module _ (names : Names) (keys : List Key) (are : AreKeys names keys) where
  -- two names at two places
  apart_at : (k l : ℕ) (d : Key) → k < l → l < length keys → (get_or keys k d).1 ≡ (get_or keys l d).1 → ⊥
  apart_at k l d before within same =
      let long = length-map keys place_of in
      are.apart k l 0 before (omega (arith, within, long))
      (get_or-map place_of keys k d 0 (omega (arith, before, within)) ∙ same
      ∙ sym (get_or-map place_of keys l d 0 within))

  -- names that differ have texts that do
  pub distinct_differ : AreDistinct names → Differ keys (length keys)
  distinct_differ distinct = λ k d within same.
      let one = are.each k d (omega (arith, within)) in
      let other = are.each (k + 1) d within in
      let equal : name_at names (get_or keys k d).1 ≡ name_at names (get_or keys (k + 1) d).1 =
      sym one.1 ∙ same ∙ other.1 in
      elim (cases_order (get_or keys k d).1 (get_or keys (k + 1) d).1) [
        | inl alike ↦ apart_at k (k + 1) d (omega arith) within alike
        | inr order ↦ elim order [
          | inl before ↦ distinct _ _ ([], 0) before other.0 equal
          | inr after ↦ distinct _ _ ([], 0) after one.0 (sym equal)
        ]
      ]

  module _ (sorted : IsSorted key_cmp keys) (differ : Differ keys (length keys)) where
    step : (k : ℕ) (d : Key) → k + 1 < length keys → cmp (get_or keys k d).0.now (get_or keys (k + 1) d).0.now ≡ Less
    step k d within = rises _ _ _ (sorted k d (omega arith) within) (differ k d within)

    far : (more k : ℕ) (d : Key) → k + suc more < length keys
        → cmp (get_or keys k d).0.now (get_or keys (k + suc more) d).0.now ≡ Less
    far zero k d within = step k d within
    far (suc more) k d within =
        nat_list_cmp_total.trans _ (get_or keys (k + suc more) d).0.now _ (far more k d (omega (arith, within)))
        (subst (λ n. cmp (get_or keys (k + suc more) d).0.now (get_or keys n d).0.now ≡ Less) (omega arith)
        (step (k + suc more) d (omega (arith, within))))

    between : (k l : ℕ) (d : Key) → k < l → l < length keys → cmp (get_or keys k d).0.now (get_or keys l d).0.now ≡ Less
    between k l d before within =
        subst (λ n. cmp (get_or keys k d).0.now (get_or keys n d).0.now ≡ Less) (omega (arith, before))
        (far (l - suc k) k d (omega (arith, before, within)))

    pub is_order : IsOrder names (map place_of keys)
    is_order = record {
      within = All-map (λ place. place < length names) place_of keys (λ k d within. (are.each k d within).0);
      whole = are.whole;
      rising = λ i j d before within.
          let long : j < length keys = omega (arith, within, length-map keys place_of) in
          get_map place_of keys i d (λ n. cmp (name_at names n) (name_at names (get_or (map place_of keys) j d)) ≡ Less)
          (omega (arith, before, long))
          (λ e. get_map place_of keys j d (λ n. cmp (name_at names (get_or keys i e).1) (name_at names n) ≡ Less) long
          (λ f.
          let one = are.each i e (omega (arith, before, long)) in
          let other = are.each j f long in
          let same : get_or keys i f ≡ get_or keys i e = get_or_default keys i f e (omega (arith, before, long)) in
          subst (λ text. cmp (name_at names (get_or keys i e).1) text ≡ Less) other.1
          (subst (λ text. cmp text (get_or keys j f).0.now ≡ Less) (ap (λ (key : Key). key.0.now) same ∙ one.1)
          (between i j f before long))));
    }

-- ---- the places of keys in order

-- a text that is that before it
pub twice_is : (keys : List Key) (at : ℕ) (d e : Key) → 0 < at → at < length keys
    → bytes_eq (get_or keys (at - 1) d).0.now (get_or keys at e).0.now ≡ true
    → Differ keys (length keys) → ⊥
twice_is keys at d e past within same differ =
    let next : at - 1 + 1 ≡ at = omega (arith, past) in
    differ (at - 1) d (omega (arith, past, within))
    ((bytes_eq-Decides _ _).0 same
    ∙ ap (λ (key : Key). key.0.now) (get_or_default keys at e d within ∙ ap (λ k. get_or keys k d) (sym next)))

pub differ_first : (keys : List Key) (at : ℕ) → at ≤ 0 → Differ keys (at + 1)
differ_first keys at none = λ k d within. absurd (omega (arith, none, within))

pub differ_next : (keys : List Key) (at : ℕ) (d e : Key) → at < length keys → Differ keys at
    → bytes_eq (get_or keys (at - 1) d).0.now (get_or keys at e).0.now ≡ false
    → Differ keys (at + 1)
differ_next keys at d e within before other = λ k f low same. elim (cases_order (k + 1) at) [
  | inl last ↦
      let is : k ≡ at - 1 = omega (arith, last) in
      let one : get_or keys k f ≡ get_or keys (at - 1) d = ap (λ n. get_or keys n f) is
      ∙ get_or_default keys (at - 1) f d (omega (arith, within)) in
      let two : get_or keys (k + 1) f ≡ get_or keys at e = ap (λ n. get_or keys n f) last
      ∙ get_or_default keys at f e within in
      true≢false (sym ((bytes_eq-Decides _ _).1 (sym (ap (λ (key : Key). key.0.now) one) ∙ same
      ∙ ap (λ (key : Key). key.0.now) two)) ∙ other)
  | inr order ↦ elim order [
    | inl early ↦ before k f early same
    | inr late ↦ absurd (omega (arith, late, low))
  ]
]

pub places_more : (keys : List Key) (at : ℕ) (places : List ℕ) (d : Key) → at < length keys
    → places ≡ map place_of (take at keys)
    → places ++ (get_or keys at d).1 ∷ [] ≡ map place_of (take (at + 1) keys)
places_more keys at places d within are =
    ap (λ xs. xs ++ (get_or keys at d).1 ∷ []) are
    ∙ sym (ap (map place_of) (take_more keys at d within) ∙ map-append place_of (take at keys) (get_or keys at d ∷ []))

-- ---- names in order

module _ (names : Names) (order : List ℕ) (name : List ℕ) where
  -- the names before a place are below the text
  pub record Below (low : ℕ) : Type 0 where
    pub each : (k d : ℕ) → k < low → cmp (name_at names (get_or order k d)) name ≡ Less

  -- those from a place on are above it
  pub record Above (high : ℕ) : Type 0 where
    pub each : (k d : ℕ) → high ≤ k → k < length order → cmp name (name_at names (get_or order k d)) ≡ Less

  pub below_none : Below 0
  below_none = record { each = λ k d within. absurd (omega (arith, within)) }

  pub above_none : Above (length order)
  above_none = record { each = λ k d past within. absurd (omega (arith, past, within)) }

module _ (names : Names) (order : List ℕ) (is : IsOrder names order) where
  -- one place after the other
  rising_at : (i j : ℕ) (a : Contains order i) (c : Contains order j) → a.0 < c.0
      → cmp (name_at names i) (name_at names j) ≡ Less
  rising_at i j a c before =
      subst (λ n. cmp (name_at names i) (name_at names n) ≡ Less) c.2
      (subst (λ n. cmp (name_at names n) (name_at names (get_or order c.0 j)) ≡ Less)
      (get_or_default order a.0 j i a.1 ∙ a.2) (is.rising a.0 c.0 j before c.1))

  pub order_distinct : AreDistinct names
  order_distinct = λ i j d before within same.
      let low : i < length names = omega (arith, before, within) in
      let equal : name_at names i ≡ name_at names j =
      ap (λ (name : List ℕ × ℕ). name.0) (get_or_default names i ([], 0) d low) ∙ same
      ∙ ap (λ (name : List ℕ × ℕ). name.0) (get_or_default names j d ([], 0) within) in
      let one = is.whole i low in
      let other = is.whole j within in
      elim (cases_order one.0 other.0) [
        | inl alike ↦
            let is_same : i ≡ j = sym one.2 ∙ ap (λ k. get_or order k i) alike
            ∙ get_or_default order other.0 i j other.1 ∙ other.2 in
            absurd (omega (arith, before, is_same))
        | inr order ↦ elim order [
          | inl first ↦ below_differs _ _ (rising_at i j one other first) equal
          | inr last ↦ below_differs _ _ (rising_at j i other one last) (sym equal)
        ]
      ]

  module _ (name : List ℕ) where
    module _ (middle place : ℕ) (within : middle < length order) (there : get_or order middle place ≡ place) where
      at_middle : (d : ℕ) → get_or order middle d ≡ place
      at_middle d = get_or_default order middle d place within ∙ there

      pub is_there : place < length names
      is_there = subst (λ n. n < length names) there (is.within middle place within)

      -- what is compared is the name at the place
      pub compared : (pair : List ℕ × ℕ) (o : Ordering) → pair ≡ get_or names place pair → cmp pair.0 name ≡ o
          → cmp (name_at names place) name ≡ o
      compared pair o here e =
          ap (λ (it : List ℕ × ℕ). cmp it.0 name) (get_or_default names place ([], 0) pair is_there ∙ sym here) ∙ e

      pub below_more : cmp (name_at names place) name ≡ Less → Below names order name (middle + 1)
      below_more less = record {
        each = λ k d low. elim (cases_order k middle) [
          | inl same ↦ subst (λ n. cmp (name_at names n) name ≡ Less)
              (sym (ap (λ n. get_or order n d) same ∙ at_middle d)) less
          | inr order' ↦ elim order' [
            | inl before ↦
                nat_list_cmp_total.trans _ (name_at names place) _
                (subst (λ n. cmp (name_at names (get_or order k d)) (name_at names n) ≡ Less) (at_middle d)
                (is.rising k middle d before within)) less
            | inr past ↦ absurd (omega (arith, past, low))
          ]
        ];
      }

      pub above_more : cmp (name_at names place) name ≡ Greater → Above names order name middle
      above_more greater = record {
        each = λ k d high long.
            let less : cmp name (name_at names place) ≡ Less = above_is_below (name_at names place) name greater in
            elim (cases_order k middle) [
              | inl same ↦ subst (λ n. cmp name (name_at names n) ≡ Less)
                  (sym (ap (λ n. get_or order n d) same ∙ at_middle d)) less
              | inr order' ↦ elim order' [
                | inl before ↦ absurd (omega (arith, before, high))
                | inr past ↦
                    nat_list_cmp_total.trans _ (name_at names place) _ less
                    (subst (λ n. cmp (name_at names n) (name_at names (get_or order k d)) ≡ Less) (at_middle d)
                    (is.rising middle k d past long))
              ]
            ];
      }

    pub nowhere : (low high : ℕ) → high ≤ low → Below names order name low → Above names order name high → (place : ℕ)
        → place < length names → name_at names place ≢ name
    nowhere low high past below above place within same =
        let it = is.whole place within in
        let here : name_at names (get_or order it.0 place) ≡ name = ap (name_at names) it.2 ∙ same in
        elim (cases_order it.0 low) [
          | inl alike ↦ below_differs _ _ (above.each it.0 place (omega (arith, past, alike)) it.1) (sym here)
          | inr order' ↦ elim order' [
            | inl before ↦ below_differs _ _ (below.each it.0 place before) here
            | inr after ↦ below_differs _ _ (above.each it.0 place (omega (arith, past, after)) it.1) (sym here)
          ]
        ]

pub is_name : (one other : List ℕ) → cmp one other ≡ Equal → one ≡ other
is_name one other e = exact_bytes one other e

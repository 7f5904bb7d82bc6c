-- What searches give where more is declared, and where more bases are named.
use Rattle.std.proofs.Common.{◌≡◌, ◌∙◌, ℕ, zero, suc, ◌+◌, ◌<◌, ◌≤◌, ◌⊎◌, inl, inr, Bool, true, false, not, cond, nat_eq, List, [], ◌∷◌, ◌++◌, length, slice_get, position, Option, Some, None, refl, sym, ap, arith}
use Rattle.std.specs.Prelude.{◌||◌, is_some, nat_lt}
use Rattle.std.specs.List.{list_any, prefix_len}
use Rattle.std.specs.Option.{option_map}
use Rattle.std.proofs.Math.Dec.{leb}
use Rattle.std.proofs.lemmas.Bool.{lt-ltb, le-ltb, leb-true, leb-false, ltb-true, ltb-false}
use Rattle.name_table.specs.declared.search.Found.{Found}
use Rattle.name_table.specs.declared.search.Found.TheVariants.{Nothing, One, Several}
use Rattle.name_table.specs.Entry.{Entry, bases_in, bases_of, is_named, named}
use Rattle.name_table.specs.Search.{base_at, before, both, declared_before, from_base, inherited, or_else, own, within}

-- ---- bases that are named before a token

-- where entries agree on what is before the token `cut`
module _ (es fs : List Entry) (cut : ℕ) (same_base : (s j : ℕ) → j < cut
    → base_at (bases_of fs s) j ≡ base_at (bases_of es s) j)
    (same_own : (m s : ℕ) (w : List ℕ) → m < cut → own fs m s w ≡ own es m s w) where
  pub agree : (t s : ℕ) (w : List ℕ) → t ≤ cut → inherited fs t s w ≡ inherited es t s w
  agree zero s w h = refl
  agree (suc m) s w h =
      let lt : m < cut = omega arith in
      let le : m ≤ cut = omega arith in
      let given_then : ℕ → Found = λ x. or_else (own fs m x w) (inherited fs m x w) in
      let given : ℕ → Found = λ x. or_else (own es m x w) (inherited es m x w) in
      ap (λ x. both x (from_base given_then (base_at (bases_of fs s) m))) (agree m s w le)
      ∙ ap (λ b. both (inherited es m s w) (from_base given_then b)) (same_base s m lt)
      ∙ ap (both (inherited es m s w)) (by m w lt (λ x. agree m x w le) (base_at (bases_of es s) m))
    where
      by : (m : ℕ) (w : List ℕ) → m < cut → ((x : ℕ) → inherited fs m x w ≡ inherited es m x w) → (b : Option ℕ)
          → from_base (λ x. or_else (own fs m x w) (inherited fs m x w)) b
          ≡ from_base (λ x. or_else (own es m x w) (inherited es m x w)) b
      by m w lt same None = refl
      by m w lt same (Some b) =
          ap (λ x. or_else x (inherited fs m (suc b) w)) (same_own m (suc b) w lt)
          ∙ ap (or_else (own es m (suc b) w)) (same (suc b))

  pub agree_within : (m s : ℕ) (w : List ℕ) → m < cut → within fs m s w ≡ within es m s w
  agree_within m s w h =
      let le : m ≤ cut = omega arith in
      ap (λ x. or_else x (inherited fs m s w)) (same_own m s w h) ∙ ap (or_else (own es m s w)) (agree m s w le)

pub both_nothing : (x : Found) → both x Nothing ≡ x
both_nothing Nothing = refl
both_nothing (One e) = refl
both_nothing (Several a b) = refl

split : (a b : ℕ) → a ≤ suc b → (a ≤ b) ⊎ (a ≡ suc b)
split a b h = by (leb a b) refl
  where
    by : (t : Bool) → leb a b ≡ t → (a ≤ b) ⊎ (a ≡ suc b)
    by true e = inl (leb-true a b e)
    by false e = let lt = leb-false a b e in inr (omega arith)

-- where no base is named from the token `cut` on
module _ (es : List Entry) (s : ℕ) (w : List ℕ) (cut : ℕ) (none : (j : ℕ) → cut ≤ j → base_at (bases_of es s) j ≡ None)
  where
    pub constant : (t : ℕ) → cut ≤ t → inherited es t s w ≡ inherited es cut s w
    constant zero h = let same : cut ≡ 0 = omega arith in ap (λ t. inherited es t s w) (sym same)
    constant (suc m) h = by (constant m) (split cut m h)
      where
        by : (cut ≤ m → inherited es m s w ≡ inherited es cut s w) → (cut ≤ m) ⊎ (cut ≡ suc m)
            → inherited es (suc m) s w ≡ inherited es cut s w
        by before (inl le) =
            ap (λ b. both (inherited es m s w) (from_base (λ x. or_else (own es m x w) (inherited es m x w)) b))
            (none m le)
            ∙ both_nothing (inherited es m s w) ∙ before le
        by before (inr e) = ap (λ t. inherited es t s w) (sym e)

-- what isn't inherited isn't at an earlier token
both_first : (a b : Found) → both a b ≡ Nothing → a ≡ Nothing
both_first Nothing b h = refl
both_first (One e) Nothing h = h
both_first (One e) (One f) h = absurd (by (nat_eq e f) h)
  where
    by : (t : Bool) → cond t (One e) (Several e f) ≡ Nothing → ⊥
    by true h = cc
    by false h = cc
both_first (One e) (Several a b) h = cc
both_first (Several a b) c h = h

pub nothing_earlier : (es : List Entry) (s : ℕ) (w : List ℕ) (t u : ℕ) → t ≤ u → inherited es u s w ≡ Nothing
    → inherited es t s w ≡ Nothing
nothing_earlier es s w t zero h e = let same : t ≡ 0 = omega arith in ap (λ x. inherited es x s w) same
nothing_earlier es s w t (suc u) h e =
    by (λ le. nothing_earlier es s w t u le (both_first (inherited es u s w) _ e)) (split t u h)
  where
    by : (t ≤ u → inherited es t s w ≡ Nothing) → (t ≤ u) ⊎ (t ≡ suc u) → inherited es t s w ≡ Nothing
    by before (inl le) = before le
    by before (inr is) = ap (λ x. inherited es x s w) is ∙ e

-- ---- one more at the end of a list

pub place : {X : Type 0} → (X → Bool) → List X → Option ℕ
place p [] = None
place p (x ∷ xs) = cond (p x) (Some 0) (option_map suc (place p xs))

abbrev pub or_place : Option ℕ → Option ℕ → Option ℕ
or_place None b = b
or_place (Some k) b = Some k

place_is : {X : Type 0} (p : X → Bool) (xs : List X) → position p xs ≡ place p xs
unfolding place
place_is p [] = refl
place_is p (x ∷ xs) =
    by (p x) (prefix_len (λ y. not (p y)) xs) (length xs)
    ∙ ap (λ r. cond (p x) (Some 0) (option_map suc r)) (place_is p xs)
  where
    next : (a n : ℕ) (t : Bool) → nat_lt a n ≡ t → cond (nat_lt (1 + a) (suc n)) (Some (1 + a)) None
        ≡ option_map suc (cond t (Some a) None)
    next a n true e =
        let s : 1 + a ≡ suc a = omega arith in
        let below = ltb-true a n e in
        let lt : 1 + a < suc n = omega arith in
        ap (λ t. cond t (Some (1 + a)) None) (lt-ltb (1 + a) (suc n) lt) ∙ ap Some s
    next a n false e =
        let above = ltb-false a n e in
        let le : suc n ≤ 1 + a = omega arith in
        ap (λ t. cond t (Some (1 + a)) None) (le-ltb (1 + a) (suc n) le)

    by : (b : Bool) (a n : ℕ) → cond (nat_lt (cond (not b) (1 + a) 0) (suc n)) (Some (cond (not b) (1 + a) 0)) None
        ≡ cond b (Some 0) (option_map suc (cond (nat_lt a n) (Some a) None))
    by true a n = let h : 0 < suc n = omega arith in ap (λ t. cond t (Some 0) None) (lt-ltb 0 (suc n) h)
    by false a n = next a n (nat_lt a n) refl

pub position_cons : {X : Type 0} (p : X → Bool) (x : X) (xs : List X)
    → position p (x ∷ xs) ≡ cond (p x) (Some 0) (option_map suc (position p xs))
unfolding place
position_cons p x xs = place_is p (x ∷ xs) ∙ ap (λ r. cond (p x) (Some 0) (option_map suc r)) (sym (place_is p xs))

place_push : {X : Type 0} (p : X → Bool) (xs : List X) (y : X)
    → place p (xs ++ y ∷ []) ≡ or_place (place p xs) (cond (p y) (Some (length xs)) None)
unfolding place
place_push p [] y = refl
place_push p (x ∷ xs) y =
    ap (λ r. cond (p x) (Some 0) (option_map suc r)) (place_push p xs y) ∙ by (length xs) (p x) (place p xs) (p y)
  where
    by : (n : ℕ) (a : Bool) (r : Option ℕ) (b : Bool)
        → cond a (Some 0) (option_map suc (or_place r (cond b (Some n) None)))
        ≡ or_place (cond a (Some 0) (option_map suc r)) (cond b (Some (suc n)) None)
    by n true r b = refl
    by n false (Some k) b = refl
    by n false None true = refl
    by n false None false = refl

pub position_push : {X : Type 0} (p : X → Bool) (xs : List X) (y : X)
    → position p (xs ++ y ∷ []) ≡ or_place (position p xs) (cond (p y) (Some (length xs)) None)
position_push p xs y =
    place_is p (xs ++ y ∷ []) ∙ place_push p xs y
    ∙ sym (ap (λ r. or_place r (cond (p y) (Some (length xs)) None)) (place_is p xs))

place_any : {X : Type 0} (p : X → Bool) (xs : List X) → is_some (place p xs) ≡ list_any p xs
unfolding place
place_any p [] = refl
place_any p (x ∷ xs) = by (p x) (place p xs) (list_any p xs) (place_any p xs)
  where
    by : (b : Bool) (r : Option ℕ) (a : Bool) → is_some r ≡ a → is_some (cond b (Some 0) (option_map suc r)) ≡ (b || a)
    by true r a h = refl
    by false None a h = h
    by false (Some k) a h = h

pub position_any : {X : Type 0} (p : X → Bool) (xs : List X) → is_some (position p xs) ≡ list_any p xs
position_any p xs = ap is_some (place_is p xs) ∙ place_any p xs

place_low : {X : Type 0} (p : X → Bool) (xs : List X) (k : ℕ) → place p xs ≡ Some k → k < length xs
unfolding place
place_low p [] k h = cc
place_low p (x ∷ xs) k h = by (p x) (place p xs) (place_low p xs) h
  where
    by : (b : Bool) (r : Option ℕ) → ((j : ℕ) → r ≡ Some j → j < length xs)
        → cond b (Some 0) (option_map suc r) ≡ Some k → k < suc (length xs)
    by true r low h = let z : 0 ≡ k = cc in omega arith
    by false None low h = cc
    by false (Some j) low h = let z : suc j ≡ k = cc in let lt = low j refl in omega arith

pub position_low : {X : Type 0} (p : X → Bool) (xs : List X) (k : ℕ) → position p xs ≡ Some k → k < length xs
position_low p xs k h = place_low p xs k (sym (place_is p xs) ∙ h)

pub get_push_low : {X : Type 0} (xs : List X) (y : X) (k : ℕ) → k < length xs
    → slice_get (xs ++ y ∷ []) k ≡ slice_get xs k
get_push_low [] y k h = absurd (omega arith)
get_push_low (x ∷ xs) y zero h = refl
get_push_low (x ∷ xs) y (suc k) h = get_push_low xs y k (omega arith)

pub get_push_last : {X : Type 0} (xs : List X) (y : X) → slice_get (xs ++ y ∷ []) (length xs) ≡ Some y
get_push_last [] y = refl
get_push_last (x ∷ xs) y = get_push_last xs y

-- where the new element counts as none
pub get_push : {X A : Type 0} (f : Option X → A) (xs : List X) (y : X) (k : ℕ) → f (Some y) ≡ f None
    → f (slice_get (xs ++ y ∷ []) k) ≡ f (slice_get xs k)
get_push f [] y zero h = h
get_push f [] y (suc k) h = refl
get_push f (x ∷ xs) y zero h = refl
get_push f (x ∷ xs) y (suc k) h = get_push f xs y k h

-- ---- one more entry

module _ (es : List Entry) (e : Entry) where
  pub named_push : (s : ℕ) (w : List ℕ) → named (es ++ e ∷ []) s w
      ≡ or_place (named es s w) (cond (is_named s w e) (Some (length es)) None)
  named_push s w = position_push (is_named s w) es e

  pub own_push : (m s : ℕ) (w : List ℕ) → m ≤ e.token → own (es ++ e ∷ []) m s w ≡ own es m s w
  own_push m s w h = ap (declared_before (es ++ e ∷ []) m) (named_push s w) ∙ by (named es s w) (is_named s w e) refl
    where
      by : (r : Option ℕ) (b : Bool) → named es s w ≡ r
          → declared_before (es ++ e ∷ []) m (or_place r (cond b (Some (length es)) None)) ≡ declared_before es m r
      by (Some k) b is = ap (before m k) (get_push_low es e k (position_low (is_named s w) es k is))
      by None true is = ap (before m (length es)) (get_push_last es e)
          ∙ ap (λ t. cond t (One (length es)) Nothing) (le-ltb e.token m h)
      by None false is = refl

  pub bases_push : e.bases ≡ [] → (s : ℕ) → bases_of (es ++ e ∷ []) s ≡ bases_of es s
  bases_push h zero = refl
  bases_push h (suc k) = get_push bases_in es e k h

  -- a search gives what it gave
  module _ (plain : e.bases ≡ []) (latest : ℕ) (bounded : (s j b : ℕ) → base_at (bases_of es s) j ≡ Some b → j ≤ latest)
      (late : latest ≤ e.token) where
    same_base : (s j : ℕ) → j < suc e.token → base_at (bases_of (es ++ e ∷ []) s) j ≡ base_at (bases_of es s) j
    same_base s j h = ap (λ bs. base_at bs j) (bases_push plain s)

    same_own : (m s : ℕ) (w : List ℕ) → m < suc e.token → own (es ++ e ∷ []) m s w ≡ own es m s w
    same_own m s w h = own_push m s w (omega arith)

    pub within_push : (m s : ℕ) (w : List ℕ) → m ≤ e.token → within (es ++ e ∷ []) m s w ≡ within es m s w
    within_push m s w h = agree_within es (es ++ e ∷ []) (suc e.token) same_base same_own m s w (omega arith)

    none_behind : (s j : ℕ) → suc e.token ≤ j → base_at (bases_of es s) j ≡ None
    none_behind s j h = by (base_at (bases_of es s) j) refl
      where
        by : (r : Option ℕ) → base_at (bases_of es s) j ≡ r → r ≡ None
        by None is = refl
        by (Some b) is = let le = bounded s j b is in absurd (omega arith)

    pub inherited_push : (t s : ℕ) (w : List ℕ) → inherited (es ++ e ∷ []) t s w ≡ inherited es t s w
    inherited_push t s w = by (leb t (suc e.token)) refl
      where
        at_cut : (u : ℕ) → u ≤ suc e.token → inherited (es ++ e ∷ []) u s w ≡ inherited es u s w
        at_cut u h = agree es (es ++ e ∷ []) (suc e.token) same_base same_own u s w h

        by : (b : Bool) → leb t (suc e.token) ≡ b → inherited (es ++ e ∷ []) t s w ≡ inherited es t s w
        by true is = at_cut t (leb-true t (suc e.token) is)
        by false is =
            let lt = leb-false t (suc e.token) is in
            let le : suc e.token ≤ t = omega arith in
            constant (es ++ e ∷ []) s w (suc e.token) (λ j h. ap (λ bs. base_at bs j) (bases_push plain s)
            ∙ none_behind s j h) t le
            ∙ at_cut (suc e.token) (omega arith)
            ∙ sym (constant es s w (suc e.token) (none_behind s) t le)

-- Entries without bases.
use Rattle.std.proofs.Common.{◌≡◌, ◌∙◌, ℕ, zero, suc, max, ◌+◌, Bool, true, false, cond, ◌&&◌, nat_eq, List, [], ◌∷◌, ◌++◌, take, map, length, slice_get, Option, Some, None, refl, sym, ap, subst, arith, eqb-true}
use Rattle.std.specs.List.{AllByRecursion, IsDistinct}
use Rattle.std.specs.Option.{option_map}
use Rattle.std.specs.Char.{to_ascii_lowercase}
use Rattle.std.specs.Str.{bytes_eq, str_eq_ignore_ascii_case}
use Rattle.name_table.specs.declared.entry.Base.{Base}
use Rattle.name_table.specs.declared.search.Found.TheVariants.{Nothing}
use Rattle.name_table.specs.Entry.{AreDistinct, Entry, bases_of, is_named, named}
use Rattle.name_table.specs.Entries.{last_of, latest}
use Rattle.name_table.specs.Features.{HaveNoBases, as_feature, differ, features_of}
use Rattle.name_table.specs.Search.{base_at, both, from_base, inherited, or_else, own}
use Rattle.name_table.proofs.Features.{differ_none}
use Rattle.name_table.proofs.Lookups.{position_map}
use Rattle.name_table.proofs.Stability.{position_cons}

-- ---- no bases

pub latest_bare : (es : List Entry) → HaveNoBases es → latest es ≡ 0
latest_bare [] h = refl
latest_bare (e ∷ es) (none, rest) =
    let here = ap last_of none in
    let behind = latest_bare es rest in
    omega (arith, here, behind)

pub bare_push : (es : List Entry) (e : Entry) → HaveNoBases es → e.bases ≡ [] → HaveNoBases (es ++ e ∷ [])
bare_push [] e h none = (none, tt)
bare_push (x ∷ xs) e (here, rest) none = (here, bare_push xs e rest none)

bases_bare : (es : List Entry) (s : ℕ) → HaveNoBases es → bases_of es s ≡ []
bases_bare es zero h = refl
bases_bare [] (suc e) h = refl
bases_bare (x ∷ xs) (suc zero) (here, rest) = here
bases_bare (x ∷ xs) (suc (suc e)) (here, rest) = bases_bare xs (suc e) rest

inherits_none : (es : List Entry) → HaveNoBases es → (t s : ℕ) (w : List ℕ) → inherited es t s w ≡ Nothing
inherits_none es h zero s w = refl
inherits_none es h (suc m) s w =
    ap (λ x. both x (from_base (λ x. or_else (own es m x w) (inherited es m x w)) (base_at (bases_of es s) m)))
    (inherits_none es h m s w)
    ∙ ap (λ bs. from_base (λ x. or_else (own es m x w) (inherited es m x w)) (base_at bs m)) (bases_bare es s h)

bare_features : (es : List Entry) → HaveNoBases es → HaveNoBases (features_of es)
bare_features [] h = tt
bare_features (e ∷ es) (here, rest) = (here, bare_features es rest)

-- where nothing has bases, nothing is inherited
pub features_inherit_none : (es : List Entry) → HaveNoBases es → (t s : ℕ) (w : List ℕ)
    → inherited (features_of es) t s w ≡ Nothing
features_inherit_none es h t s w = inherits_none (features_of es) (bare_features es h) t s w

pub features_differ_none : (es : List Entry) → HaveNoBases es → (inner : ℕ) (base : Base)
    → false ≡ differ (features_of es) inner base
features_differ_none es h inner base =
    differ_none (features_of es) inner base (λ name. sym (features_inherit_none es h base.token inner name))

-- ---- the first entries

all_at : {X : Type 0} (P : X → Type 0) (xs : List X) (n : ℕ) (x : X) → AllByRecursion P xs → slice_get xs n ≡ Some x
    → P x
all_at P [] n x h at = cc
all_at P (y ∷ ys) zero x (here, rest) at = let same : y ≡ x = cc in subst P same here
all_at P (y ∷ ys) (suc n) x (here, rest) at = all_at P ys n x rest at

pub bare_at : (es : List Entry) (n : ℕ) (e : Entry) → HaveNoBases es → slice_get es n ≡ Some e → e.bases ≡ []
bare_at es n e h at = all_at (λ e. e.bases ≡ []) es n e h at

pub bare_take : (es : List Entry) (n : ℕ) → HaveNoBases es → HaveNoBases (take n es)
bare_take es zero h = tt
bare_take [] (suc n) h = tt
bare_take (e ∷ es) (suc n) (here, rest) = (here, bare_take es n rest)

take_more : {X : Type 0} (xs : List X) (n : ℕ) (x : X) → slice_get xs n ≡ Some x → take (suc n) xs ≡ take n xs ++ x ∷ []
take_more [] n x h = cc
take_more (y ∷ ys) zero x h = let same : y ≡ x = cc in ap (λ z. z ∷ []) same
take_more (y ∷ ys) (suc n) x h = ap (λ r. y ∷ r) (take_more ys n x h)

features_behind : (es : List Entry) (e : Entry) → features_of (es ++ e ∷ []) ≡ features_of es ++ as_feature e ∷ []
features_behind [] e = refl
features_behind (x ∷ xs) e = ap (λ r. as_feature x ∷ r) (features_behind xs e)

pub features_take : (es : List Entry) (n : ℕ) (e : Entry) → slice_get es n ≡ Some e
    → features_of (take (n + 1) es) ≡ features_of (take n es) ++ as_feature e ∷ []
features_take es n e at =
    let next : n + 1 ≡ suc n = omega arith in
    ap (λ k. features_of (take k es)) next ∙ ap features_of (take_more es n e at) ∙ features_behind (take n es) e

-- ---- names that are apart

eq_swap : (a b : ℕ) → nat_eq a b ≡ nat_eq b a
eq_swap a b = by (nat_eq a b) (nat_eq b a) refl refl
  where
    by : (x y : Bool) → nat_eq a b ≡ x → nat_eq b a ≡ y → nat_eq a b ≡ nat_eq b a
    by true y is other = sym (subst (λ z. nat_eq z a ≡ nat_eq a z) (eqb-true a b is) refl)
    by false true is other = subst (λ z. nat_eq z b ≡ nat_eq b z) (eqb-true b a other) refl
    by false false is other = is ∙ sym other

bytes_swap : (a b : List ℕ) → bytes_eq a b ≡ bytes_eq b a
bytes_swap [] [] = refl
bytes_swap [] (y ∷ ys) = refl
bytes_swap (x ∷ xs) [] = refl
bytes_swap (x ∷ xs) (y ∷ ys) =
    ap (λ c. c && bytes_eq xs ys) (eq_swap x y) ∙ ap (λ c. nat_eq y x && c) (bytes_swap xs ys)

named_swap : (a b : Entry) → is_named a.scope a.name b ≡ is_named b.scope b.name a
named_swap a b =
    ap (λ c. c && str_eq_ignore_ascii_case a.name b.name) (eq_swap a.scope b.scope)
    ∙ ap (λ c. nat_eq b.scope a.scope && c) (bytes_swap (map to_ascii_lowercase a.name) (map to_ascii_lowercase b.name))

new_behind : (es : List Entry) (n : ℕ) (e : Entry) → AreDistinct es → slice_get es n ≡ Some e
    → named (take n es) e.scope e.name ≡ None
unfolding IsDistinct
new_behind [] n e d at = cc
new_behind (x ∷ xs) zero e d at = refl
new_behind (x ∷ xs) (suc n) e (first, rest) at =
    position_cons (is_named e.scope e.name) x (take n xs)
    ∙ ap (λ c. cond c (Some 0) (option_map suc (named (take n xs) e.scope e.name)))
    (named_swap e x ∙ all_at (λ y. is_named x.scope x.name y ≡ false) xs n e first at)
    ∙ ap (option_map suc) (new_behind xs n e rest at)

-- the name of an entry is new among the features of those before it
pub feature_new : (es : List Entry) (n : ℕ) (e : Entry) → AreDistinct es → slice_get es n ≡ Some e
    → named (features_of (take n es)) e.scope e.name ≡ None
feature_new es n e d at = position_map (is_named e.scope e.name) as_feature (take n es) ∙ new_behind es n e d at

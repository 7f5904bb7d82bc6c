-- Entries behind which others are declared, and which get bases, from a token on.
use Rattle.std.proofs.Common.{◌≡◌, ◌∙◌, ℕ, zero, suc, ◌<◌, ◌≤◌, Bool, true, false, cond, nat_eq, List, [], ◌∷◌, ◌++◌, length, length-append, slice_get, slice_set, position, Option, Some, None, refl, sym, ap, subst, arith}
use Rattle.std.specs.Option.{option_map}
use Rattle.std.proofs.lemmas.Bool.{eqb-true}
use Rattle.std.proofs.lemmas.List.{length-set}
use Rattle.name_table.specs.declared.entry.Base.{Base}
use Rattle.name_table.specs.Entry.{Entry, bases_in, bases_of, is_named, named}
use Rattle.name_table.specs.Entries.{entry_with_base, with_base}
use Rattle.name_table.specs.Search.{base_at, before, declared_before, own}
use Rattle.name_table.proofs.Lookups.{position_map}
use Rattle.name_table.proofs.MoreBases.{get_like, map_like}
use Rattle.name_table.proofs.Stability.{bases_push, get_push_low, named_push, or_place, own_push}

-- an entry but for its bases
abbrev pub bare : Entry → Entry
bare e = record e { bases = [] }

-- the entries `es` stay in `fs`, where nothing new is declared or named as a base before the token n
pub record Later (n : ℕ) (es fs : List Entry) : Type 0 where
  pub longer : length es ≤ length fs
  pub kept : (k : ℕ) → k < length es → option_map bare (slice_get fs k) ≡ option_map bare (slice_get es k)
  pub names : (scope : ℕ) (w : List ℕ) (k : ℕ) → named es scope w ≡ Some k → named fs scope w ≡ Some k
  pub owned : (m scope : ℕ) (w : List ℕ) → m ≤ n → own fs m scope w ≡ own es m scope w
  pub bases : (scope j : ℕ) → j < n → base_at (bases_of fs scope) j ≡ base_at (bases_of es scope) j

pub later_none : (n : ℕ) (es : List Entry) → Later n es es
later_none n es = record {
  longer = omega arith;
  kept = λ k lt. refl;
  names = λ scope w k h. h;
  owned = λ m scope w le. refl;
  bases = λ scope j lt. refl;
}

pub later_on : {n : ℕ} {es fs gs : List Entry} → Later n es fs → Later n fs gs → Later n es gs
later_on {n} {es} {fs} {gs} a b =
    let first = a.longer in
    let second = b.longer in
    record {
      longer = omega arith;
      kept = λ k lt. b.kept k (omega arith) ∙ a.kept k lt;
      names = λ scope w k h. b.names scope w k (a.names scope w k h);
      owned = λ m scope w le. b.owned m scope w le ∙ a.owned m scope w le;
      bases = λ scope j lt. b.bases scope j lt ∙ a.bases scope j lt;
    }

-- before an earlier token
pub later_from : {n : ℕ} {es fs : List Entry} (m : ℕ) → m ≤ n → Later n es fs → Later m es fs
later_from {n} {es} {fs} m le a = record {
  longer = a.longer;
  kept = a.kept;
  names = a.names;
  owned = λ k scope w h. a.owned k scope w (omega arith);
  bases = λ scope j lt. a.bases scope j (omega arith);
}

-- ---- one more entry

pub later_push : (n : ℕ) (es : List Entry) (e : Entry) → e.bases ≡ [] → n ≤ e.token → Later n es (es ++ e ∷ [])
later_push n es e none late =
    let all = length-append es (e ∷ []) in
    record {
      longer = omega arith;
      kept = λ k lt. ap (option_map bare) (get_push_low es e k lt);
      names = λ scope w k h.
          named_push es e scope w ∙ ap (λ o. or_place o (cond (is_named scope w e) (Some (length es)) None)) h;
      owned = λ m scope w le. own_push es e m scope w (omega arith);
      bases = λ scope j lt. ap (λ bs. base_at bs j) (bases_push es e none scope);
    }

-- ---- one more base

base_behind : (bs : List Base) (b : Base) (j : ℕ) → j < b.token → base_at (bs ++ b ∷ []) j ≡ base_at bs j
base_behind [] b j lt = by (nat_eq b.token j) refl
  where
    by : (t : Bool) → nat_eq b.token j ≡ t → cond t (Some b.entry) None ≡ None
    by true is = let same = eqb-true b.token j is in absurd (omega arith)
    by false is = refl
base_behind (c ∷ cs) b j lt = ap (cond (nat_eq c.token j) (Some c.entry)) (base_behind cs b j lt)

module _ (n : ℕ) (es : List Entry) (e : ℕ) (x : Entry) (base : Base) (there : slice_get es e ≡ Some x)
    (late : n ≤ base.token) where
  abbrev more : Entry
  more = record x { bases = x.bases ++ base ∷ [] }

  abbrev fs : List Entry
  fs = slice_set es e more

  names_like : (scope : ℕ) (w : List ℕ) → named fs scope w ≡ named es scope w
  names_like scope w =
      sym (position_map (is_named scope w) bare fs)
      ∙ ap (position (is_named scope w)) (map_like bare es e x more there refl)
      ∙ position_map (is_named scope w) bare es

  own_like : (m scope : ℕ) (w : List ℕ) → own fs m scope w ≡ own es m scope w
  own_like m scope w = ap (declared_before fs m) (names_like scope w) ∙ by (named es scope w)
    where
      by : (o : Option ℕ) → declared_before fs m o ≡ declared_before es m o
      by None = refl
      by (Some k) = get_like (before m k) es e x more k there refl

  bases_like : (scope j : ℕ) → j < n → base_at (bases_of fs scope) j ≡ base_at (bases_of es scope) j
  bases_like zero j lt = refl
  bases_like (suc k) j lt =
      get_like (λ o. base_at (bases_in o) j) es e x more k there (base_behind x.bases base j (omega arith))

  later_more : Later n es fs
  later_more =
      let count = length-set es e more in
      record {
        longer = omega arith;
        kept = λ k lt. get_like (option_map bare) es e x more k there refl;
        names = λ scope w k h. names_like scope w ∙ h;
        owned = λ m scope w le. own_like m scope w;
        bases = bases_like;
      }

pub later_base : (n : ℕ) (es : List Entry) (inner : ℕ) (base : Base) → n ≤ base.token
    → Later n es (with_base es inner base)
later_base n es zero base late = later_none n es
later_base n es (suc e) base late = by (slice_get es e) refl
  where
    by : (o : Option Entry) → slice_get es e ≡ o → Later n es (with_base es (suc e) base)
    by None is = subst (λ fs. Later n es fs) (sym (ap (entry_with_base es e base) is)) (later_none n es)
    by (Some x) is = subst (λ fs. Later n es fs) (sym (ap (entry_with_base es e base) is))
        (later_more n es e x base is late)

-- an entry stays the same but for its bases
pub bare_base : (es : List Entry) (inner : ℕ) (base : Base) (k : ℕ)
    → option_map bare (slice_get (with_base es inner base) k) ≡ option_map bare (slice_get es k)
bare_base es zero base k = refl
bare_base es (suc e) base k = by (slice_get es e) refl
  where
    by : (o : Option Entry) → slice_get es e ≡ o → option_map bare (slice_get (entry_with_base es e base o) k)
        ≡ option_map bare (slice_get es k)
    by None is = refl
    by (Some x) is = get_like (option_map bare) es e x (record x { bases = x.bases ++ base ∷ [] }) k is refl

-- The table of operations and attributes in step with that of all entries.
use Rattle.std.proofs.Common.{◌≡◌, ◌∙◌, ℕ, ◌≤◌, zero, suc, Bool, true, false, List, [], ◌∷◌, ◌++◌, map, length, slice_get, Option, Some, None, refl, sym, ap}
use Rattle.std.specs.Prelude.{if◌then◌else◌}
use Rattle.std.specs.Option.{option_map}
use Rattle.std.proofs.lemmas.List.{length-map}
use Rattle.std.proofs.lemmas.Option.{slice_get-map}
use Rattle.name_table.specs.declared.entry.Base.{Base}
use Rattle.name_table.specs.Entry.{Entry, is_named, named}
use Rattle.name_table.specs.Entries.{entry_with_base, with_base}
use Rattle.name_table.specs.Features.{HaveNoBases, as_feature, features_of}
use Rattle.scoped_names.specs.inner.StateKept.{AreFeatures}
use Rattle.name_table.proofs.Lookups.{position_map}
use Rattle.name_table.proofs.MoreBases.{map_changed}

map_behind : {X Y : Type 0} (f : X → Y) (xs : List X) (y : X) → map f (xs ++ y ∷ []) ≡ map f xs ++ f y ∷ []
map_behind f [] y = refl
map_behind f (x ∷ xs) y = ap (λ r. f x ∷ r) (map_behind f xs y)

pub named_features : (es : List Entry) (s : ℕ) (w : List ℕ) → named (features_of es) s w ≡ named es s w
named_features es s w = position_map (is_named s w) as_feature es

-- one entry more
pub features_more : (es : List Entry) (e : Entry) → features_of (es ++ e ∷ []) ≡ features_of es ++ as_feature e ∷ []
features_more es e = map_behind as_feature es e

-- of a token that is as late, and one behind all, either is as late
pub late_either : (b : Bool) (last t far : ℕ) → last ≤ t → last ≤ far → last ≤ (if b then t else far)
late_either true last t far low below = low
late_either false last t far low below = below

-- one base more
pub features_based : (es : List Entry) (inner : ℕ) (base : Base)
    → features_of (with_base es inner base) ≡ with_base (features_of es) inner base
features_based es zero base = refl
features_based es (suc e) base = by (slice_get es e) refl
  where
    there : (o : Option Entry) → slice_get es e ≡ o → entry_with_base (features_of es) e base (option_map as_feature o)
        ≡ with_base (features_of es) (suc e) base
    there o is = sym (ap (entry_with_base (features_of es) e base)
        (slice_get-map as_feature es e ∙ ap (option_map as_feature) is))

    by : (o : Option Entry) → slice_get es e ≡ o → features_of (with_base es (suc e) base)
        ≡ with_base (features_of es) (suc e) base
    by None is = ap (λ o. features_of (entry_with_base es e base o)) is ∙ there None is
    by (Some x) is =
        ap (λ o. features_of (entry_with_base es e base o)) is
        ∙ map_changed as_feature es e (record x { bases = x.bases ++ base ∷ [] }) ∙ there (Some x) is

pub as_many : (es : List Entry) → length (features_of es) ≡ length es
as_many es = length-map es as_feature

-- ---- kept apart from the first base on

pub are_apart : (all : List Entry) (b : Bool) (features : List Entry) → b ≡ true → AreFeatures all b features
    → features ≡ features_of all
are_apart all true features is kept = kept
are_apart all false features is kept = cc

pub are_bare : (all : List Entry) (b : Bool) (features : List Entry) → b ≡ false → AreFeatures all b features
    → HaveNoBases all
are_bare all true features is kept = cc
are_bare all false features is kept = kept

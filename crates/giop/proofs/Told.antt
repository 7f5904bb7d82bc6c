-- The key that a target of each kind tells.
use Rattle.std.proofs.Common.{◌≡◌, ℕ, ℤ, List, Option, Some, None, slice_get, refl, sym, ap₂, ◌∙◌, subst}
use Rattle.type_graph.specs.Value.{Tree, Choice, NoTree}
use Rattle.giop_types.specs.Fields.{tagged_tree, tagged_trees}
use Rattle.reference_texts.specs.Profiles.{HasKey}
use Rattle.giop_messages.specs.Headers.{IsKeyOf, TellsKey, ByKey, ByProfile, ByReference, key_target, profile_target, reference_target}
use Rattle.reference_texts.proofs.TreeLaws.{tagged_same, all_tagged_same}
use Rattle.giop.specs.inner.Tapes.{IsAt, IsIn}

-- the same of an equal target
moved : (target other : Tree) (key : Option (List ℕ)) → target ≡ other → IsKeyOf other key → IsKeyOf target key
moved target other key e is = subst (λ (v : Tree). IsKeyOf v key) (sym e) is

pub key_told : (target : Tree) (key : List ℕ) → target ≡ key_target key → IsKeyOf target (Some key)
key_told target key e = ByKey e

not_profile : (profile : ℕ × List ℕ) → ((key : List ℕ) → HasKey profile key → ⊥) → (target : Tree) (key : List ℕ)
    → target ≡ profile_target profile → TellsKey target key → ⊥
not_profile profile none target key e (ByKey f) = absurd (cc)
not_profile profile none target key e (ByProfile p f h) =
    let same : profile_target profile ≡ profile_target p = sym e ∙ f in
    let one : tagged_tree profile ≡ tagged_tree p = cc in
    none key (subst (λ (r : ℕ × List ℕ). HasKey r key) (sym (tagged_same profile p one)) h)
not_profile profile none target key e (ByReference n t ps p f at h) = absurd (cc)

pub profile_told : (target : Tree) (profile : ℕ × List ℕ) (key : Option (List ℕ)) → target ≡ profile_target profile
    → IsIn profile key → IsKeyOf target key
profile_told target profile (Some key) e h = ByProfile profile e h
profile_told target profile None e h = λ key told. not_profile profile h target key e told

some_same : (p q : ℕ × List ℕ) → Some p ≡ Some q → p ≡ q
some_same p q e = cc

not_reference : (selected : ℕ) (type_id : List ℕ) (profiles : List (ℕ × List ℕ)) (place : Option (ℕ × List ℕ))
    → slice_get profiles selected ≡ place → IsAt place None → (target : Tree) (key : List ℕ)
    → target ≡ reference_target selected type_id profiles → TellsKey target key → ⊥
not_reference n t ps place at none target key e (ByKey f) = absurd (cc)
not_reference n t ps place at none target key e (ByProfile q f h) = absurd (cc)
not_reference n t ps None at none target key e (ByReference m u qs q f there h) =
    let same : reference_target n t ps ≡ reference_target m u qs = sym e ∙ f in
    let places : n ≡ m = cc in
    let list : tagged_trees ps ≡ tagged_trees qs = cc in
    let one : None ≡ Some q = sym at ∙ ap₂ slice_get (all_tagged_same ps qs list) places ∙ there in
    absurd (cc)
not_reference n t ps (Some p) at none target key e (ByReference m u qs q f there h) =
    let same : reference_target n t ps ≡ reference_target m u qs = sym e ∙ f in
    let places : n ≡ m = cc in
    let list : tagged_trees ps ≡ tagged_trees qs = cc in
    let one : Some p ≡ Some q = sym at ∙ ap₂ slice_get (all_tagged_same ps qs list) places ∙ there in
    none key (subst (λ (r : ℕ × List ℕ). HasKey r key) (sym (some_same p q one)) h)

selected_told : (selected : ℕ) (type_id : List ℕ) (profiles : List (ℕ × List ℕ)) (place : Option (ℕ × List ℕ))
    (target : Tree) (key : Option (List ℕ)) → slice_get profiles selected ≡ place
    → target ≡ reference_target selected type_id profiles → IsAt place key → IsKeyOf target key
selected_told n t ps (Some p) target (Some key) at e h = ByReference n t ps p e at h
selected_told n t ps None target (Some key) at e h = absurd (cc)
selected_told n t ps place target None at e h = λ key told. not_reference n t ps place at h target key e told

pub reference_told : (target : Tree) (selected : ℕ) (type_id : List ℕ) (profiles : List (ℕ × List ℕ))
    (key : Option (List ℕ)) → target ≡ reference_target selected type_id profiles
    → IsAt (slice_get profiles selected) key → IsKeyOf target key
reference_told target n t ps key e h = selected_told n t ps (slice_get ps n) target key refl e h

not_other : (label : ℤ) (target : Tree) (key : List ℕ) → target ≡ Choice label NoTree → TellsKey target key → ⊥
not_other label target key e (ByKey f) = absurd (cc)
not_other label target key e (ByProfile p f h) = absurd (cc)
not_other label target key e (ByReference n t ps p f at h) = absurd (cc)

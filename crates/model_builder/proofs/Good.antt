-- What holds of the steps of a whole file without faults of names, and of each part of it: what they ask is answered,
-- nothing that they introduce clashes, and members have words for names.
use Rattle.std.proofs.Common.{◌≡◌, ◌∙◌, ℕ, suc, List, [], ◌∷◌, ◌++◌, Some, append_assoc, refl, sym, ap, subst}
use Rattle.std.specs.List.{AllByRecursion, IsDistinct, flat_map}
use Rattle.idl_tree.specs.declared.names.Leaf.{Leaf}
use Rattle.idl_tree.specs.declared.spec.Spec.{Spec}
use Rattle.name_table.specs.Entry.{Entry, named}
use Rattle.name_table.specs.Entries.{scope_number, scope_of}
use Rattle.name_table.specs.Search.{word}
use Rattle.scoped_names.specs.Holding.{AllHold, Holds}
use Rattle.scoped_names.specs.Introductions.{clashes, introduced, introduced_by, scope_behind}
use Rattle.name_steps.specs.Steps.{Step, Enters, Leaves, steps_of}
use Rattle.scoped_names.specs.FileNames.{AreNames, FileNames}
use Rattle.scoped_names.proofs.Held.{names_hold}
use Rattle.scoped_names.proofs.Introduced.{IsFlat, flat_behind, nothing_clashes}
use Rattle.scoped_names.proofs.Parts.{Closed, holds_split, inside_holds, scope_past}
use Rattle.model_builder.proofs.EntryWords.{IsNamedByWord, spec_words}
use Rattle.model_builder.proofs.Picked.{all_split, distinct_split}

pub record Good (es : List Entry) (scope : ℕ) (steps : List Step) : Type 0 where
  pub holds : AllHold es scope steps
  pub apart : IsDistinct clashes (introduced es scope steps)
  pub words : AllByRecursion IsNamedByWord (introduced es scope steps)

introduced_both : (es : List Entry) (scope : ℕ) (xs ys : List Step)
    → introduced es scope (xs ++ ys) ≡ introduced es scope xs ++ introduced es (scope_past es scope xs) ys
introduced_both es scope [] ys = refl
introduced_both es scope (x ∷ xs) ys =
    let inner = scope_behind es scope x in
    ap (λ z. introduced_by scope x ++ z) (introduced_both es inner xs ys)
    ∙ sym (append_assoc (introduced_by scope x) (introduced es inner xs) (introduced es (scope_past es inner xs) ys))

-- what a part and what is behind it introduce
pub good_walk : (es : List Entry) (scope : ℕ) (xs ys : List Step) → Closed xs → Good es scope (xs ++ ys)
    → introduced es scope (xs ++ ys) ≡ introduced es scope xs ++ introduced es scope ys
good_walk es scope xs ys c g =
    let parts = holds_split es scope xs ys g.holds in
    introduced_both es scope xs ys ∙ ap (λ k. introduced es scope xs ++ introduced es k ys) (c.go es scope parts.0)

pub good_both : (es : List Entry) (scope : ℕ) (xs ys : List Step) → Closed xs → Good es scope (xs ++ ys)
    → Good es scope xs × Good es scope ys
good_both es scope xs ys c g =
    let parts = holds_split es scope xs ys g.holds in
    let past = c.go es scope parts.0 in
    let all = good_walk es scope xs ys c g in
    let apart = distinct_split clashes (introduced es scope xs) (introduced es scope ys)
    (subst (IsDistinct clashes) all g.apart) in
    let words = all_split IsNamedByWord (introduced es scope xs) (introduced es scope ys)
    (subst (AllByRecursion IsNamedByWord) all g.words) in (
      record { holds = parts.0; apart = apart.0; words = words.0 },
      record { holds = subst (λ k. AllHold es k ys) past parts.1; apart = apart.1; words = words.1 },
    )

-- a step that is done in the scope of the next
pub good_tail : (es : List Entry) (scope : ℕ) (s : Step) (xs : List Step) → IsFlat s → Good es scope (s ∷ xs)
    → Holds es scope s × Good es scope xs
good_tail es scope s xs flat g =
    let same = flat_behind es scope s flat in
    let all : introduced es scope (s ∷ xs) ≡ introduced_by scope s ++ introduced es scope xs =
    ap (λ k. introduced_by scope s ++ introduced es k xs) same in
    let apart = distinct_split clashes (introduced_by scope s) (introduced es scope xs)
    (subst (IsDistinct clashes) all g.apart) in
    let words = all_split IsNamedByWord (introduced_by scope s) (introduced es scope xs)
    (subst (AllByRecursion IsNamedByWord) all g.words) in (
      g.holds.0,
      record { holds = subst (λ k. AllHold es k xs) same g.holds.1; apart = apart.1; words = words.1 },
    )

-- what stands inside the scope of an entry
pub good_inside : (es : List Entry) (scope : ℕ) (l : Leaf) (xs : List Step) (n : ℕ) → Closed xs
    → named es scope (word l) ≡ Some n
    → Good es scope (Enters l ∷ (xs ++ Leaves ∷ [])) → Good es (suc n) xs
good_inside es scope l xs n c is g =
    let (m, there, body) = inside_holds es scope l xs c g.holds in
    let same : m ≡ n = let both : Some m ≡ Some n = sym there ∙ is in cc in
    let inner : scope_of es scope l ≡ suc n = ap scope_number is in
    let holds = subst (λ k. AllHold es (suc k) xs) same body in
    let all : introduced es scope (Enters l ∷ (xs ++ Leaves ∷ [])) ≡ introduced es (suc n) xs ++ [] =
    ap (λ k. introduced es k (xs ++ Leaves ∷ [])) inner ∙ introduced_both es (suc n) xs (Leaves ∷ []) in
    let apart = distinct_split clashes (introduced es (suc n) xs) [] (subst (IsDistinct clashes) all g.apart) in
    let words = all_split IsNamedByWord (introduced es (suc n) xs) [] (subst (AllByRecursion IsNamedByWord) all g.words)
    in
    record { holds = holds; apart = apart.0; words = words.0 }

-- of lists of parts
pub good_each : {T : Type 0} (es : List Entry) (scope : ℕ) (steps : T → List Step) → ((x : T) → Closed (steps x))
    → (xs : List T) → Good es scope (flat_map steps xs)
    → AllByRecursion (λ x. Good es scope (steps x)) xs
good_each es scope steps c [] g = tt
good_each es scope steps c (x ∷ xs) g =
    let both = good_both es scope (steps x) (flat_map steps xs) (c x) g in
    (both.0, good_each es scope steps c xs both.1)

pub spec_good : (spec : Spec) (names : FileNames) → AreNames spec.definitions.items names
    → Good names.entries 0 (steps_of spec.definitions.items)
spec_good spec names h =
    record {
      holds = names_hold spec names h;
      apart = nothing_clashes spec.definitions.items names h;
      words =
          spec_words spec names.entries;
    }

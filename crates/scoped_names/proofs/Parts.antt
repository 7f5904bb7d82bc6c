-- What holds of steps holds of the parts that ask them.
use Rattle.std.proofs.Common.{◌≡◌, ◌∙◌, ℕ, suc, List, [], ◌∷◌, ◌++◌, map, Some, refl, sym, ap, subst}
use Rattle.std.specs.List.{AllByRecursion, flat_map}
use Rattle.idl_tree.specs.declared.names.Leaf.{Leaf}
use Rattle.idl_tree.specs.Pieces.{Piece}
use Rattle.name_table.specs.Entry.{Entry, around, named, scope_in}
use Rattle.name_table.specs.Entries.{scope_number}
use Rattle.name_table.specs.Search.{word}
use Rattle.scoped_names.specs.Introductions.{scope_behind}
use Rattle.name_steps.specs.Steps.{Step, Enters, Leaves}
use Rattle.scoped_names.proofs.Introduced.{IsFlat, flat_behind, plain_flat}
use Rattle.scoped_names.proofs.Introducing.{named_entry}
use Rattle.scoped_names.specs.Holding.{AllHold, Holds}
use Rattle.name_steps.proofs.Asks.{Asks, none, silent, joined, plain, base, valued, declared, featured, undefined, inside, defines}

-- the scope behind steps
abbrev pub scope_past : List Entry → ℕ → List Step → ℕ
scope_past es scope [] = scope
scope_past es scope (s ∷ steps) = scope_past es (scope_behind es scope s) steps

past_both : (es : List Entry) (scope : ℕ) (xs ys : List Step)
    → scope_past es scope (xs ++ ys) ≡ scope_past es (scope_past es scope xs) ys
past_both es scope [] ys = refl
past_both es scope (x ∷ xs) ys = past_both es (scope_behind es scope x) xs ys

pub holds_split : (es : List Entry) (scope : ℕ) (xs ys : List Step) → AllHold es scope (xs ++ ys)
    → AllHold es scope xs × AllHold es (scope_past es scope xs) ys
holds_split es scope [] ys h = (tt, h)
holds_split es scope (x ∷ xs) ys (h, hs) = let rest = holds_split es (scope_behind es scope x) xs ys hs in
    ((h, rest.0), rest.1)

-- steps that leave what they enter
pub record Closed (xs : List Step) : Type 0 where
  pub go : (es : List Entry) (scope : ℕ) → AllHold es scope xs → scope_past es scope xs ≡ scope

pub both_hold : (es : List Entry) (scope : ℕ) (xs ys : List Step) → Closed xs → AllHold es scope (xs ++ ys)
    → AllHold es scope xs × AllHold es scope ys
both_hold es scope xs ys c h =
    let parts = holds_split es scope xs ys h in
    (parts.0, subst (λ k. AllHold es k ys) (c.go es scope parts.0) parts.1)

pub both_closed : {xs ys : List Step} → Closed xs → Closed ys → Closed (xs ++ ys)
both_closed {xs} {ys} a b = record {
  go = λ es scope h.
      let parts = both_hold es scope xs ys a h in
      past_both es scope xs ys ∙ ap (λ k. scope_past es k ys) (a.go es scope parts.0) ∙ b.go es scope parts.1;
}

-- a step that is done in the scope of the next
pub one_closed : (s : Step) → IsFlat s → Closed (s ∷ [])
one_closed s flat = record { go = λ es scope h. flat_behind es scope s flat }

-- what stands inside a scope
pub inside_holds : (es : List Entry) (scope : ℕ) (l : Leaf) (xs : List Step) → Closed xs
    → AllHold es scope (Enters l ∷ (xs ++ Leaves ∷ []))
    → (n : ℕ) × (named es scope (word l) ≡ Some n) × AllHold es (suc n) xs
inside_holds es scope l xs c (h, hs) =
    let (n, is) = h.there in (
      n,
      is,
      (both_hold es (suc n) xs (Leaves ∷ []) c
          (subst (λ k. AllHold es k (xs ++ Leaves ∷ [])) (ap scope_number is) hs)).0,
    )

inside_closed : {xs : List Step} (l : Leaf) → Closed xs → Closed (Enters l ∷ (xs ++ Leaves ∷ []))
inside_closed {xs} l c = record {
  go = λ es scope h.
      let (n, is, body) = inside_holds es scope l xs c h in
      let (e, here, in_scope) = named_entry es scope (word l) n is in
      ap (λ k. scope_past es k (xs ++ Leaves ∷ [])) (ap scope_number is) ∙ past_both es (suc n) xs (Leaves ∷ [])
      ∙ ap (around es) (c.go es (suc n) body) ∙ ap scope_in here ∙ sym in_scope;
}

pub closed : {ls : List Leaf} {ps : List Piece} {xs : List Step} → Asks ls ps xs → Closed xs
closed none = record { go = λ es scope h. refl }
closed (silent p is) = record { go = λ es scope h. refl }
closed (joined a b) = both_closed (closed a) (closed b)
closed (plain s is) = one_closed s (plain_flat s is)
closed (base text id name) = record { go = λ es scope h. refl }
closed (valued c a) = both_closed (closed a) (record { go = λ es scope h. refl })
closed (declared kind id a) = let c = closed a in record { go = λ es scope h. c.go es scope h.1 }
closed (featured kind id a) = let c = closed a in record { go = λ es scope h. c.go es scope h.1 }
closed (undefined kind id a) = let c = closed a in record { go = λ es scope h. c.go es scope h.1.1 }
closed (inside id a) = inside_closed id (closed a)
closed (defines id a) = let c = closed a in record { go = λ es scope h. c.go es scope h.1 }

-- ---- lists of parts

pub each_holds : {T : Type 0} (es : List Entry) (scope : ℕ) (steps : T → List Step) → ((x : T) → Closed (steps x))
    → (xs : List T) → AllHold es scope (flat_map steps xs)
    → AllByRecursion (λ x. AllHold es scope (steps x)) xs
each_holds es scope steps c [] h = tt
each_holds es scope steps c (x ∷ xs) h =
    let parts = both_hold es scope (steps x) (flat_map steps xs) (c x) h in
    (parts.0, each_holds es scope steps c xs parts.1)

pub each_closed : {T : Type 0} (steps : T → List Step) → ((x : T) → Closed (steps x)) → (xs : List T)
    → Closed (flat_map steps xs)
each_closed steps c [] = record { go = λ es scope h. refl }
each_closed steps c (x ∷ xs) = both_closed (c x) (each_closed steps c xs)

pub each_step_closed : {T : Type 0} (step : T → Step) → ((x : T) → IsFlat (step x)) → (xs : List T)
    → Closed (map step xs)
each_step_closed step flat [] = record { go = λ es scope h. refl }
each_step_closed step flat (x ∷ xs) = both_closed (one_closed (step x) (flat x)) (each_step_closed step flat xs)

pub each_step_holds : {T : Type 0} (es : List Entry) (scope : ℕ) (step : T → Step) → ((x : T) → IsFlat (step x))
    → (xs : List T) → AllHold es scope (map step xs)
    → AllByRecursion (λ x. Holds es scope (step x)) xs
each_step_holds es scope step flat [] h = tt
each_step_holds es scope step flat (x ∷ xs) (h, hs) = (
  h,
  each_step_holds es scope step flat xs
      (subst (λ k. AllHold es k (map step xs)) (flat_behind es scope (step x) (flat x)) hs),
)
